-- Worked examples of the block join: rows, states and records written out. Assumes nothing.
use Rattle.std.specs.Prelude.{◌≡◌, ℕ, zero, suc, List, [], ◌∷◌, ◌++◌, ℤ, pos, negsuc, Some, None, FitsSigned}
use Rattle.std.specs.Int.{w32}
use Rattle.refusal.specs.Numbers.{fault_at}
use Rattle.codec.specs.declared.row.Row.{Row}
use Rattle.codec.specs.Bytes.{cell_word}
use Rattle.source.specs.Images.{image_table}
use Rattle.operator.specs.Machine.{Machine, Move, row, busy, end}
use Rattle.scan.specs.Scanning.{Scanning, at, scan_machine, scan_meaning}
use Rattle.pairing.specs.Condition.{equals, below, near, Within}
use Rattle.keeper.specs.Taking.{taken, untaken}
use Rattle.keeper.specs.Keeping.{Keeping, keeping}
use Rattle.block_join.specs.Stages.{Stage, empty}
use Rattle.block_join.specs.Joining.{join_machine, join_meaning}
use Rattle.worked.specs.Examples.{arrived, after, pair, image_p}

-- a row of four cells
abbrev pub four : ℤ → ℤ → ℤ → ℤ → Row
four a b c d = record { cells = a ∷ b ∷ c ∷ d ∷ pos 0 ∷ pos 0 ∷ pos 0 ∷ pos 0 ∷ [] }

-- the image of the table Q: (4,10), (5,150), (5,400)
abbrev pub image_q : List ℕ
image_q =
    0x01 ∷ 0x00 ∷ 0x03 ∷ 0x02
    ∷ 0x00 ∷ 0x00 ∷ 0x00 ∷ 0x04 ∷ 0x00 ∷ 0x00 ∷ 0x00 ∷ 0x0A
    ∷ 0x00 ∷ 0x00 ∷ 0x00 ∷ 0x05 ∷ 0x00 ∷ 0x00 ∷ 0x00 ∷ 0x96
    ∷ 0x00 ∷ 0x00 ∷ 0x00 ∷ 0x05 ∷ 0x00 ∷ 0x00 ∷ 0x01 ∷ 0x90 ∷ []

-- tables of one cell: (1), (2) and (5), (6)
abbrev pub ones : List ℕ
ones = 0x01 ∷ 0x00 ∷ 0x02 ∷ 0x01 ∷ 0x00 ∷ 0x00 ∷ 0x00 ∷ 0x01 ∷ 0x00 ∷ 0x00 ∷ 0x00 ∷ 0x02 ∷ []

abbrev pub fives : List ℕ
fives = 0x01 ∷ 0x00 ∷ 0x02 ∷ 0x01 ∷ 0x00 ∷ 0x00 ∷ 0x00 ∷ 0x05 ∷ 0x00 ∷ 0x00 ∷ 0x00 ∷ 0x06 ∷ []

-- a block join of two tables on their first cells, at its beginning
abbrev pub Joining : Type 0
Joining = Keeping Stage Scanning Scanning

abbrev pub join_of : ℕ → ℕ → ℤ → List ℕ → List ℕ → Joining
join_of size condition band outer inner = keeping (record { size = size; left = 0; right = 0; condition = condition; band = cell_word band }) empty (untaken (at (image_table outer) 0)) (at (image_table inner) 0)

abbrev pub joins : Machine Joining
joins = join_machine scan_machine scan_meaning.togo scan_machine

abbrev pub joined_rows : Joining → List Row
joined_rows = (join_meaning scan_machine scan_meaning scan_machine scan_meaning).whole

-- the rows that n steps answer
abbrev pub answer : {S : Type 0} → Move S → List Row
answer (row x t) = x ∷ []
answer (busy t) = []
answer end = []

abbrev pub answered : {S : Type 0} → Machine S → ℕ → S → List Row
answered m zero s = []
answered m (suc n) s = answer (m.next s) ++ answered m n (arrived s (m.next s))

-- P and Q in blocks of two by equal cells, and that join after five steps
abbrev pub join_begun : Joining
join_begun = join_of 2 equals (pos 0) image_p image_q

abbrev pub join_stopped : Joining
join_stopped = after joins 5 join_begun

-- its record by the contract, and by its rows
abbrev pub record_back : List ℕ
record_back =
    0x00 ∷ 0x15 ∷ 0x02 ∷ 0x02 ∷ 0x02
    ∷ 0x01 ∷ 0x00 ∷ 0x00 ∷ 0x00 ∷ 0x04 ∷ 0x00 ∷ 0x00 ∷ 0x00 ∷ 0x0A ∷ 0x02
    ∷ 0x00 ∷ 0x02 ∷ 0x00 ∷ 0x00
    ∷ 0x00 ∷ 0x02 ∷ 0x00 ∷ 0x01 ∷ []

abbrev pub record_dumped : List ℕ
record_dumped =
    0x00 ∷ 0x25 ∷ 0x02 ∷ 0x01 ∷ 0x02
    ∷ 0x01 ∷ 0x00 ∷ 0x00 ∷ 0x00 ∷ 0x04 ∷ 0x00 ∷ 0x00 ∷ 0x00 ∷ 0x0A ∷ 0x02
    ∷ 0x00 ∷ 0x00 ∷ 0x00 ∷ 0x03 ∷ 0xFF ∷ 0xFF ∷ 0xFF ∷ 0x38
    ∷ 0x00 ∷ 0x00 ∷ 0x00 ∷ 0x04 ∷ 0x00 ∷ 0x00 ∷ 0x00 ∷ 0x00
    ∷ 0x00 ∷ 0x02 ∷ 0x00 ∷ 0x02
    ∷ 0x00 ∷ 0x02 ∷ 0x00 ∷ 0x01 ∷ []

pub record JoinExamples : Type 0 where
  -- a block join
  pub rows : joined_rows (join_of 2 below (pos 0) ones fives) ≡ pair (pos 1) (pos 5) ∷ pair (pos 2) (pos 5) ∷ pair (pos 1) (pos 6) ∷ pair (pos 2) (pos 6) ∷ []
  pub five_steps : answered joins 5 join_begun ≡ four (pos 4) (pos 0) (pos 4) (pos 10) ∷ []
  pub back : joins.saved join_stopped (2 ∷ []) ≡ record_back
  pub back_owes : joins.refetch join_stopped record_back ≡ 2
  pub dumped : joins.saved join_stopped (1 ∷ []) ≡ record_dumped
  pub dumped_owes : joins.refetch join_stopped record_dumped ≡ 0
  pub no_choice : joins.saved join_stopped [] ≡ record_dumped
  -- both lead back to where it stood, the second without its contract
  pub loaded_back : joins.restored join_begun record_back ≡ Some join_stopped
  pub loaded_dumped : joins.restored join_begun record_dumped ≡ Some (keeping join_stopped.terms join_stopped.stage (taken join_stopped.outer.rows None join_stopped.outer.child) join_stopped.inner)
  -- bands
  pub within_40 : Within (pos 40) (pos 100) (pos 60)
  pub not_within_39 : Within (pos 39) (pos 100) (pos 60) → ⊥
  pub within_none : (w : ℤ) → FitsSigned w32 w → Within w (negsuc 2147483647) (pos 2147483647) → ⊥
  pub band_alone : joins.flaw (join_of 2 equals (pos 1) image_p image_q) 0 ≡ Some (fault_at 3 0)
  pub band_near : joins.flaw (join_of 2 near (pos 1) image_p image_q) 0 ≡ None

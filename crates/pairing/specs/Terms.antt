-- The parameters of a block join, what they match and what is wrong with them. Assumes nothing.
use Rattle.std.specs.Prelude.{ℕ, ◌+◌, min, max, Bool, cond, not, ◌&&◌, ◌||◌, List, ◌∷◌, ℤ, pos, Some, None, Option, ◌==◌, int_lt, nat_le, nat_lt}
use Rattle.refusal.specs.Numbers.{Fault, fault_at}
use Rattle.codec.specs.declared.row.Row.{Row}
use Rattle.codec.specs.Bytes.{Word, word_bytes, word_cell, cell_word}
use Rattle.codec.specs.Cells.{eq_z}
use Rattle.codec.specs.Rows.{cell_at}
use Rattle.pairing.specs.declared.rule.JoinRule.{JoinRule}
use Rattle.pairing.specs.Condition.{Joins, joins, known, near}

-- the parameters as the plan has them: the block size, the outer and the inner cell, the condition and the band
pub record Terms : Type 0 where
  pub size : ℕ
  pub left : ℕ
  pub right : ℕ
  pub condition : ℕ
  pub band : Word

abbrev pub terms_of : JoinRule → Terms
terms_of r = record { size = r.size; left = r.outer_cell; right = r.inner_cell; condition = r.condition; band = cell_word r.band }

-- their bytes in the plan, behind the kind
abbrev pub terms_bytes : Terms → List ℕ
terms_bytes r = r.size ∷ (r.left ∷ (r.right ∷ (r.condition ∷ word_bytes r.band)))

-- how many rows a block has: the nearer of 1 and 16 where the size is outside
abbrev pub block_size : Terms → ℕ
block_size r = max 1 (min 16 r.size)

-- an outer and an inner row match
abbrev pub Match : Terms → Row → Row → Type 0
Match r a b = Joins r.condition (word_cell r.band) (cell_at a r.left) (cell_at b r.right)

-- the same as a test
unfoldable pub match : Terms → Row → Row → Bool
match r a b = joins r.condition (word_cell r.band) (cell_at a r.left) (cell_at b r.right)

-- an outer row and an inner row's cell match, and the same as a test
abbrev pub MatchCell : Terms → Row → ℤ → Type 0
MatchCell r a y = Joins r.condition (word_cell r.band) (cell_at a r.left) y

abbrev pub match_cell : Terms → Row → ℤ → Bool
match_cell r a y = joins r.condition (word_cell r.band) (cell_at a r.left) y

-- a cell number is not below its row's width, for rows of the widths v and w
abbrev pub misfits : Terms → ℕ → ℕ → Bool
misfits r v w = nat_le v r.left || nat_le w r.right

-- a block has 1 to 16 rows
abbrev pub bad_block : Terms → Bool
bad_block r = r.size == 0 || nat_lt 16 r.size

-- an unknown condition, a negative band, or a band with another condition than '~'
abbrev pub bad_condition : Terms → Bool
bad_condition r = not (known r.condition) || (int_lt (word_cell r.band) (pos 0) || (not (eq_z (word_cell r.band) (pos 0)) && not (r.condition == near)))

-- the faults of the operator k itself; the first Bool says that something else does not fit
unfoldable pub faulty : Bool → Terms → ℕ → ℕ → ℕ → Option Fault
faulty wide r v w k =
    cond (misfits r v w || wide) (Some (fault_at 1 k)) (cond (bad_block r) (Some (fault_at 2 k)) (cond (bad_condition r) (Some (fault_at 3 k)) None))

-- the faults of a block join itself: joined rows have at most eight cells
abbrev pub join_flaw : Terms → ℕ → ℕ → ℕ → Option Fault
join_flaw r v w k = faulty (nat_lt 8 (v + w)) r v w k

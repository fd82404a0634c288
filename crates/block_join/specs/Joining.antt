-- The block join: its steps, and its meaning, blocks of outer rows joined with all inner rows. Assumes nothing.
use Rattle.std.specs.Prelude.{◌≡◌, ℕ, ◌+◌, ◌<◌, ◌≤◌, cond, List, [], ◌++◌, length, drop, Some, None, Option, ◌==◌, nat_le}
use Rattle.codec.specs.declared.row.Row.{Row}
use Rattle.codec.specs.Rows.{Wide}
use Rattle.operator.specs.Machine.{Machine, Move, row, busy, end}
use Rattle.operator.specs.Laws.{Meaning}
use Rattle.pairing.specs.Terms.{Terms, block_size}
use Rattle.pairing.specs.declared.pair.Hit.{Hit}
use Rattle.pairing.specs.Pairs.{Pairing, blocks, matches, scanned, joined, scan_steps, all_steps, first}
use Rattle.keeper.specs.Taking.{Taken, untaken, over, with_row, signing}
use Rattle.keeper.specs.Keeping.{Keeping, keeping, Sense, keeper_machine, keeper_meaning}
use Rattle.block_join.specs.Stages.{Stage, empty, filling, scanning, matching, join_kind}

abbrev pub pairing : Terms → ℕ → Pairing
pairing r v = record { terms = r; width = v }

-- a step, by the stage and the answer from below
module _ {S T : Type 0} (o : Machine S) (i : Machine T) where
  -- filling, the outer child answered: a row joins the block, and a full block is scanned; at the outer child's end an
  -- empty block is the end, and any other is scanned
  abbrev pub filled : Terms → Taken S → T → Move S → Move (Keeping Stage S T)
  filled r t y (row b x) = busy (keeping r (cond (nat_le (block_size r) (length t.rows + 1)) scanning filling) (with_row t b x) y)
  filled r t y (busy x) = busy (keeping r filling (over t x) y)
  filled r t y end = cond (length t.rows == 0) end (busy (keeping r scanning t y))

  -- scanning, the inner child answered: a row is held; at its end it is rewound, and block and contract are dropped
  abbrev pub scanned_on : Terms → Taken S → T → Move T → Move (Keeping Stage S T)
  scanned_on r t y (row b u) = busy (keeping r (matching b 0) t u)
  scanned_on r t y (busy u) = busy (keeping r scanning t u)
  scanned_on r t y end = busy (keeping r empty (untaken t.child) (i.begin y))

  -- an inner row is held: the first match at the index or later, or the inner row is let go
  abbrev pub matched : Terms → Taken S → T → Row → Option Hit → Move (Keeping Stage S T)
  matched r t y held (Some h) = row h.row (keeping r (matching held h.next) t y)
  matched r t y held None = busy (keeping r scanning t y)

  abbrev pub next_at : Terms → Taken S → T → Stage → Move (Keeping Stage S T)
  next_at r t y empty = busy (keeping r filling (signing o t.child) y)
  next_at r t y filling = filled r t y (o.next t.child)
  next_at r t y scanning = scanned_on r t y (i.next y)
  next_at r t y (matching held j) = matched r t y held (first (pairing r (o.width t.child)) held j (drop j t.rows))

  abbrev pub next : Keeping Stage S T → Move (Keeping Stage S T)
  next s = next_at s.terms s.outer s.inner s.stage

-- the rows to come: the matches of the inner row held, those of the block with the inner rows to come, and the blocks of
-- the outer rows to come, joined with all inner rows
abbrev pub rest_at : Terms → ℕ → Stage → List Row → List Row → List Row → List Row → List Row
rest_at r v empty rows outer inner whole = joined (pairing r v) (blocks (block_size r) outer) whole
rest_at r v filling rows outer inner whole = joined (pairing r v) (blocks (block_size r) (rows ++ outer)) whole
rest_at r v scanning rows outer inner whole = scanned (pairing r v) rows inner ++ joined (pairing r v) (blocks (block_size r) outer) whole
rest_at r v (matching held j) rows outer inner whole =
    matches (pairing r v) (drop j rows) held ++ (scanned (pairing r v) rows inner ++ joined (pairing r v) (blocks (block_size r) outer) whole)

-- the steps to go from the signing of the next contract on
abbrev pub ahead : Terms → ℕ → List Row → ℕ → List Row → ℕ → ℕ
ahead r v outer to whole full = 1 + (to + all_steps (block_size r) (pairing r v) (blocks (block_size r) outer) whole full)

-- the steps to go, one for each answer with a row or busy still to come, if the children's are so
abbrev pub togo_at : Terms → ℕ → Stage → List Row → List Row → ℕ → List Row → ℕ → List Row → ℕ → ℕ
togo_at r v empty rows outer to inner ti whole full = ahead r v outer to whole full
togo_at r v filling rows outer to inner ti whole full = to + all_steps (block_size r) (pairing r v) (blocks (block_size r) (rows ++ outer)) whole full
togo_at r v scanning rows outer to inner ti whole full = ti + 1 + scan_steps (pairing r v) rows inner + ahead r v outer to whole full
togo_at r v (matching held j) rows outer to inner ti whole full =
    length (matches (pairing r v) (drop j rows) held) + 1 + (ti + 1 + scan_steps (pairing r v) rows inner + ahead r v outer to whole full)

-- the rules of the fields, at the block size and the inner width
abbrev pub Ruled : ℕ → ℕ → Stage → List Row → Option (List ℕ) → Type 0
Ruled size w empty rows contract = (rows ≡ []) × (contract ≡ None)
Ruled size w filling rows contract = length rows < size
Ruled size w scanning rows contract = (0 < length rows) × (length rows ≤ size)
Ruled size w (matching held j) rows contract = (0 < length rows) × (length rows ≤ size) × (j ≤ length rows) × Wide w held

abbrev pub join_sense : Sense Stage
join_sense = record { rest = rest_at; togo = togo_at; ruled = Ruled }

-- the machine of a block join over its children's; the steps to go of the outer child bound its moves when rows are
-- fetched again
abbrev pub join_machine : {S T : Type 0} → Machine S → (S → ℕ) → Machine T → Machine (Keeping Stage S T)
join_machine o steps i = keeper_machine join_kind o steps i (next o i)

abbrev pub join_meaning : {S T : Type 0} → Machine S → Meaning S → Machine T → Meaning T → Meaning (Keeping Stage S T)
join_meaning o d i e = keeper_meaning join_kind join_sense o d i e (next o i)

-- The rows of a block join over lists of rows, and its steps. Assumes nothing.
use Rattle.std.specs.Prelude.{ℕ, zero, suc, ◌+◌, cond, List, [], ◌∷◌, ◌++◌, length, take, drop, Some, None, Option, nat_lt}
use Rattle.codec.specs.declared.row.Row.{Row}
use Rattle.pairing.specs.declared.pair.Hit.{Hit}
use Rattle.pairing.specs.Terms.{Terms, match}

-- what decides the rows of a join: the parameters, and the width of the outer rows
pub record Pairing : Type 0 where
  pub terms : Terms
  pub width : ℕ

-- the outer cells within their width, then the inner cells; those after the eighth are dropped
unfoldable pub row_joined : ℕ → Row → Row → Row
row_joined w a b = record { cells = take 8 (take w a.cells ++ b.cells) }

-- rows cut into blocks of the size: the first rows are a block, the others are cut likewise; the first number is at
-- least as large as there are rows
unfoldable pub cut_up : ℕ → ℕ → List Row → List (List Row)
cut_up zero size rows = []
cut_up (suc n) size [] = []
cut_up (suc n) size (x ∷ xs) = take size (x ∷ xs) ∷ cut_up n size (drop size (x ∷ xs))

abbrev pub blocks : ℕ → List Row → List (List Row)
blocks size rows = cut_up (length rows) size rows

-- one inner row joined with each block row that matches, in the block's order
unfoldable pub matches : Pairing → List Row → Row → List Row
matches p [] x = []
matches p (b ∷ bs) x = cond (match p.terms b x) (row_joined p.width b x ∷ matches p bs x) (matches p bs x)

-- a block joined with inner rows, one after the other
unfoldable pub scanned : Pairing → List Row → List Row → List Row
scanned p block [] = []
scanned p block (x ∷ xs) = matches p block x ++ scanned p block xs

-- blocks joined with the same inner rows, one after the other
unfoldable pub joined : Pairing → List (List Row) → List Row → List Row
joined p [] inner = []
joined p (block ∷ others) inner = scanned p block inner ++ joined p others inner

-- the steps that inner rows cost over a block: one for each match, and one to let the inner row go
unfoldable pub scan_steps : Pairing → List Row → List Row → ℕ
scan_steps p block [] = 0
scan_steps p block (x ∷ xs) = length (matches p block x) + 1 + scan_steps p block xs

-- the steps of a block besides the outer child's own: the outer child's end where the block is short, the inner child's
-- steps and its end, its rows, and the signing of the next contract
abbrev pub block_steps : ℕ → Pairing → List Row → List Row → ℕ → ℕ
block_steps size p block inner full = cond (nat_lt (length block) size) 1 0 + (full + 1 + scan_steps p block inner + 1)

unfoldable pub all_steps : ℕ → Pairing → List (List Row) → List Row → ℕ → ℕ
all_steps size p [] inner full = 0
all_steps size p (block ∷ others) inner full = block_steps size p block inner full + all_steps size p others inner full

-- the first match of an inner row among block rows, of which the first has the index k
unfoldable pub first : Pairing → Row → ℕ → List Row → Option Hit
first p x k [] = None
first p x k (b ∷ bs) = cond (match p.terms b x) (Some (record { row = row_joined p.width b x; next = k + 1 })) (first p x (k + 1) bs)

-- Rows: eight cells, of which the first ones, as many as the width, are used. Assumes nothing.
use Rattle.std.specs.Prelude.{◌≡◌, ℕ, zero, suc, ◌-◌, ◌*◌, Bool, true, false, cond, ◌&&◌, List, [], ◌∷◌, ◌++◌, length, take, drop, replicate, ℤ, pos, negsuc, Some, None, Option, FitsSigned, ◌==◌, nat_le, nat_lt, slice_index_or}
use Rattle.std.specs.Int.Signed.{mag}
use Rattle.std.specs.Int.{w32}
use Rattle.std.specs.List.{AllByRecursion}
use Rattle.codec.specs.declared.row.Row.{Row}
use Rattle.codec.specs.Bytes.{cells_bytes, cells_of}

-- a cell by its number; a missing one reads 0
abbrev pub cell_at : Row → ℕ → ℤ
cell_at row at = slice_index_or row.cells at (pos 0)

-- a row of that width: eight cells of 32 bits, zeros behind the width
pub record Wide (w : ℕ) (r : Row) : Type 0 where
  pub eight : length r.cells ≡ 8
  pub cells : AllByRecursion (FitsSigned w32) r.cells
  pub zeros : AllByRecursion (λ z. z ≡ pos 0) (drop w r.cells)

-- the same as a test
abbrev pub fits : ℤ → Bool
fits z = nat_lt (mag z) 2147483648

abbrev pub fit : List ℤ → Bool
fit [] = true
fit (z ∷ zs) = fits z && fit zs

abbrev pub is_zero : ℤ → Bool
is_zero (pos n) = n == 0
is_zero (negsuc n) = false

abbrev pub blank : List ℤ → Bool
blank [] = true
blank (z ∷ zs) = is_zero z && blank zs

unfoldable pub wide : ℕ → Row → Bool
wide w r = length r.cells == 8 && (fit r.cells && blank (drop w r.cells))

-- the cells within the width, as bytes
abbrev pub row_bytes : ℕ → Row → List ℕ
row_bytes w r = cells_bytes (take w r.cells)

-- w cells from the bytes, and zeros behind them
abbrev pub row_of : ℕ → List ℕ → Row
row_of w bs = record { cells = cells_of w bs ++ replicate (8 - w) (pos 0) }

-- the row at the bytes' front, where they are enough for it
abbrev pub front_row : ℕ → List ℕ → Option Row
front_row w bs = cond (nat_le (4 * w) (length bs)) (Some (row_of w bs)) None

-- n rows end to end
abbrev pub rows_of : ℕ → ℕ → List ℕ → List Row
rows_of w zero bs = []
rows_of w (suc n) bs = row_of w bs ∷ rows_of w n (drop (4 * w) bs)

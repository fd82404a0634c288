-- Numbers and cells as bytes, the highest byte first. Assumes nothing; a missing byte counts as 0.
use Rattle.std.specs.Prelude.{ℕ, zero, suc, ◌+◌, ◌*◌, ◌/◌, ◌%◌, List, [], ◌∷◌, ◌++◌, length, take, drop, ℤ, slice_index}
use Rattle.std.specs.Int.{w32}
use Rattle.std.proofs.Common.{to_z, of_z}

-- a number below 2 ^ 16 in two bytes
abbrev pub be2 : ℕ → List ℕ
be2 n = (n / 256 % 256) ∷ (n % 256) ∷ []

-- a number below 2 ^ 32 in four bytes
abbrev pub be4 : ℕ → List ℕ
be4 n = (n / 16777216 % 256) ∷ (n / 65536 % 256) ∷ (n / 256 % 256) ∷ (n % 256) ∷ []

-- the number in the first two bytes
abbrev pub of2 : List ℕ → ℕ
of2 bs = slice_index bs 0 * 256 + slice_index bs 1

-- the number in the first four bytes
abbrev pub of4 : List ℕ → ℕ
of4 bs = slice_index bs 0 * 16777216 + slice_index bs 1 * 65536 + slice_index bs 2 * 256 + slice_index bs 3

-- a signed cell in two's complement
abbrev pub cell_bytes : ℤ → List ℕ
cell_bytes z = be4 (of_z w32 z)

abbrev pub cell_of : List ℕ → ℤ
cell_of bs = to_z w32 (of4 bs)

-- four bytes as they stand in a plan; a parameter is kept so where the plan alone has to decide it
pub record Word : Type 0 where
  pub b3 : ℕ
  pub b2 : ℕ
  pub b1 : ℕ
  pub b0 : ℕ

abbrev pub word_bytes : Word → List ℕ
word_bytes w = w.b3 ∷ w.b2 ∷ w.b1 ∷ w.b0 ∷ []

abbrev pub word_cell : Word → ℤ
word_cell w = cell_of (word_bytes w)

abbrev pub cell_word : ℤ → Word
cell_word z = record { b3 = of_z w32 z / 16777216 % 256; b2 = of_z w32 z / 65536 % 256; b1 = of_z w32 z / 256 % 256; b0 = of_z w32 z % 256 }

-- cells end to end
abbrev pub cells_bytes : List ℤ → List ℕ
cells_bytes [] = []
cells_bytes (z ∷ zs) = cell_bytes z ++ cells_bytes zs

-- the first n cells
abbrev pub cells_of : ℕ → List ℕ → List ℤ
cells_of zero bs = []
cells_of (suc n) bs = cell_of bs ∷ cells_of n (drop 4 bs)

-- bs written over xs from the index `at` on
abbrev pub overwrite : ℕ → List ℕ → List ℕ → List ℕ
overwrite at bs xs = take at xs ++ (bs ++ drop (at + length bs) xs)

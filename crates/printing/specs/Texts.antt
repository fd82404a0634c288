-- What the worked examples print of bytes and of cells. Assumes nothing.
use Rattle.std.specs.Prelude.{ℕ, ◌/◌, ◌%◌, false, List, [], ◌∷◌, ◌++◌, ℤ, codes}
use Rattle.std.specs.Fmt.{digit_glyph, signed_decimal}
use Rattle.std.specs.List.{flat_map}

-- a space and the two digits of a byte
abbrev pub hex_byte : ℕ → List ℕ
hex_byte b = 32 ∷ (digit_glyph false (b / 16) ∷ (digit_glyph false (b % 16) ∷ []))

-- the cells in parentheses, with a comma before each but the first
abbrev pub next_cell : ℤ → List ℕ
next_cell z = codes "," ++ signed_decimal z

abbrev pub cells_text : List ℤ → List ℕ
cells_text [] = codes "()"
cells_text (z ∷ zs) = codes "(" ++ signed_decimal z ++ flat_map next_cell zs ++ codes ")"

-- When an outer and an inner cell match by a condition. Assumes nothing.
use Rattle.std.specs.Prelude.{◌≡◌, ℕ, Bool, ◌&&◌, ◌||◌, ◌⊎◌, ℤ, ◌-ℤ◌, ◌≤ℤ◌, ◌<ℤ◌, ◌==◌, int_le, int_lt}
use Rattle.codec.specs.Cells.{eq_z}

-- the characters of the conditions: '=', '<' and '~'
abbrev pub equals : ℕ
equals = 61

abbrev pub below : ℕ
below = 60

abbrev pub near : ℕ
near = 126

-- the exact difference is at most the band w either way
abbrev pub Within : ℤ → ℤ → ℤ → Type 0
Within w x y = ((x -ℤ y) ≤ℤ w) × ((y -ℤ x) ≤ℤ w)

-- the outer cell x matches the inner cell y; by no other character does anything match
abbrev pub Joins : ℕ → ℤ → ℤ → ℤ → Type 0
Joins c w x y = ((c ≡ equals) × (x ≡ y)) ⊎ (((c ≡ below) × (x <ℤ y)) ⊎ ((c ≡ near) × Within w x y))

-- the same as tests
abbrev pub within : ℤ → ℤ → ℤ → Bool
within w x y = int_le (x -ℤ y) w && int_le (y -ℤ x) w

unfoldable pub joins : ℕ → ℤ → ℤ → ℤ → Bool
joins c w x y = (c == equals && eq_z x y) || ((c == below && int_lt x y) || (c == near && within w x y))

unfoldable pub known : ℕ → Bool
known c = c == equals || (c == below || c == near)

-- When a cell passes a condition. Assumes nothing.
use Rattle.std.specs.Prelude.{◌≡◌, ℕ, Bool, cond, ◌&&◌, ◌||◌, ◌⊎◌, ℤ, ◌<ℤ◌, Some, None, Option, ◌==◌, int_lt, nat_le}
use Rattle.refusal.specs.Numbers.{Fault, fault_at}
use Rattle.codec.specs.declared.row.Row.{Row}
use Rattle.codec.specs.Bytes.{Word, word_cell}
use Rattle.codec.specs.Cells.{eq_z}
use Rattle.codec.specs.Rows.{cell_at}

-- the characters of the conditions: '=', '<' and '>'
abbrev pub equals : ℕ
equals = 61

abbrev pub below : ℕ
below = 60

abbrev pub above : ℕ
above = 62

-- the cell x passes against the constant k; by no other character does anything pass
abbrev pub Passes : ℕ → ℤ → ℤ → Type 0
Passes c x k = ((c ≡ equals) × (x ≡ k)) ⊎ (((c ≡ below) × (x <ℤ k)) ⊎ ((c ≡ above) × (k <ℤ x)))

-- the same as a test
unfoldable pub holds : ℕ → ℤ → ℤ → Bool
holds c x k = (c == equals && eq_z x k) || ((c == below && int_lt x k) || (c == above && int_lt k x))

-- whether a row's cell passes, the constant being four bytes of a plan
abbrev pub passing : ℕ → ℕ → Word → Row → Bool
passing cell condition constant x = holds condition (cell_at x cell) (word_cell constant)

unfoldable pub known : ℕ → Bool
known c = c == equals || (c == below || c == above)

-- the faults of a condition of the operator k: a cell number not below the width, an unknown condition
unfoldable pub own_flaw : ℕ → ℕ → ℕ → ℕ → Option Fault
own_flaw width cell condition k = cond (nat_le width cell) (Some (fault_at 1 k)) (cond (known condition) None (Some (fault_at 3 k)))

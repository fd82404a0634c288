-- Ramps: width 2, and row i is (i, start + i × step). Assumes nothing.
use Rattle.std.specs.Prelude.{ℕ, ◌<◌, ◌≤◌, ◌∷◌, map, replicate, ℤ, pos, ◌+ℤ◌, ◌*ℤ◌, FitsSigned}
use Rattle.std.specs.Int.{w32}
use Rattle.std.specs.List.{range_with_len}
use Rattle.codec.specs.declared.row.Row.{Row}
use Rattle.source.specs.Table.{Content, Table, table_of}

-- the second cell of row i
unfoldable pub ramp_cell : ℤ → ℤ → ℕ → ℤ
ramp_cell start step i = start +ℤ (pos i *ℤ step)

unfoldable pub ramp_row : ℤ → ℤ → ℕ → Row
ramp_row start step i = record { cells = pos i ∷ ramp_cell start step i ∷ replicate 6 (pos 0) }

unfoldable pub ramp_rows : ℤ → ℤ → ℕ → Content
ramp_rows start step count = map (ramp_row start step) (range_with_len 0 count)

-- the rule of a ramp: at most 4,096 rows, and every cell in range
pub record RampFits (start step : ℤ) (count : ℕ) : Type 0 where
  pub few : count ≤ 4096
  pub inside : (i : ℕ) → i < count → FitsSigned w32 (ramp_cell start step i)

-- the meaning of a ramp
abbrev pub ramp_table : ℤ → ℤ → ℕ → Table
ramp_table start step count = table_of 2 (ramp_rows start step count)

-- What the crates of edges try, as values. Assumes nothing.
use Rattle.std.specs.Prelude.{ℕ, ◌∷◌, replicate, ℤ, pos}
use Rattle.codec.specs.declared.row.Row.{Row}
use Rattle.filter.specs.declared.condition.Criterion.{Criterion}

abbrev pub two_cells : ℤ → ℤ → Row
two_cells a b = record { cells = a ∷ (b ∷ replicate 6 (pos 0)) }

abbrev pub criterion : ℕ → ℕ → ℤ → Criterion
criterion cell condition constant = record { cell = cell; condition = condition; constant = constant }

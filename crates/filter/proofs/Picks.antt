-- A filter picks the passing rows. Assumes nothing.
use Rattle.std.proofs.Common.{ℕ, List, ℤ, Decides, filter, subst, w32, SFits}
use Rattle.codec.specs.declared.row.Row.{Row}
use Rattle.codec.specs.Bytes.{cell_word, word_cell}
use Rattle.codec.specs.Rows.{cell_at}
use Rattle.codec.proofs.Laws.{cell_back}
use Rattle.filter.specs.Condition.{Passes, holds}
use Rattle.filter.specs.Filtering.{filtering, passes}
use Rattle.codec.specs.Picks.{Picked}
use Rattle.codec.proofs.Picks.{picked}
use Rattle.filter.proofs.Conditions.{decides_holds}

-- what a filter keeps are the rows that pass against its constant
pub picks : {C : Type 0} (child : C) (cell condition : ℕ) (constant : ℤ) (rows : List Row) → SFits w32 constant
    → Picked (λ x. Passes condition (cell_at x cell) constant) rows (filter (passes (filtering child cell condition (cell_word constant))) rows)
picks child cell condition constant rows fit =
    let D : (x : Row) → Decides (holds condition (cell_at x cell) (word_cell (cell_word constant))) (Passes condition (cell_at x cell) constant) =
    λ x. (let P : ℤ → Type 0 = λ k. Decides (holds condition (cell_at x cell) (word_cell (cell_word constant))) (Passes condition (cell_at x cell) k) in
    subst P (cell_back constant fit) (decides_holds condition (cell_at x cell) (word_cell (cell_word constant)))) in
    picked (λ x. Passes condition (cell_at x cell) constant) (passes (filtering child cell condition (cell_word constant))) D rows

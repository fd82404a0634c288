-- The rows of a source that pass a condition. Assumes nothing.
use Rattle.std.specs.Prelude.{◌≡◌, ℕ, List, length, ℤ, Some, None, Ok, Err, vec_items, Result}
use Rattle.refusal.specs.Numbers.{number, fault}
use Rattle.codec.specs.declared.row.Row.{Row}
use Rattle.codec.specs.Rows.{cell_at}
use Rattle.source.specs.Table.{Table}
use Rattle.source.specs.Images.{TableImage, image_table}
use Rattle.source.specs.Ramps.{RampFits, ramp_table}
use Rattle.filter.specs.Condition.{Passes, own_flaw}
use Rattle.codec.specs.Picks.{Picked}
use Rattle.run.specs.declared.Failure.{Failure}
use Rattle.run.specs.declared.Failure.TheVariants.{Refused, NoMemory}
use Rattle.filter.specs.declared.condition.Criterion.{Criterion}
use Rattle.select.specs.declared.Selection.{Selection}

-- a row is wanted if its cell passes
abbrev pub Wanted : Criterion → Row → Type 0
Wanted c x = Passes c.condition (cell_at x c.cell) c.constant

-- the wanted rows of a table, each row taking one step; or the fault of the criterion for rows of that width
abbrev pub Selects : Table → Criterion → Result Selection Failure → Type 0
Selects t c (Ok s) =
    (own_flaw t.width c.cell c.condition 0 ≡ None) × (s.width ≡ t.width) × (s.steps ≡ length t.content) × Picked (Wanted c) t.content (vec_items s.rows)
Selects t c (Err (Refused e)) = own_flaw t.width c.cell c.condition 0 ≡ Some (fault e)
Selects t c (Err NoMemory) = own_flaw t.width c.cell c.condition 0 ≡ None

-- refused as a bad source
abbrev pub IsBadSource : Result Selection Failure → Type 0
IsBadSource (Ok s) = ⊥
IsBadSource (Err (Refused e)) = number e ≡ 12
IsBadSource (Err NoMemory) = ⊥

abbrev pub SelectsImage : List ℕ → Criterion → Result Selection Failure → Type 0
SelectsImage bs c r = (TableImage bs → Selects (image_table bs) c r) × ((TableImage bs → ⊥) → IsBadSource r)

abbrev pub SelectsRamp : ℤ → ℤ → ℕ → Criterion → Result Selection Failure → Type 0
SelectsRamp start step count c r = (RampFits start step count → Selects (ramp_table start step count) c r) × ((RampFits start step count → ⊥) → IsBadSource r)

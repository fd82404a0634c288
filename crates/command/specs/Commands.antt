-- What the words of a command line ask for. Assumes nothing.
use Rattle.std.specs.Prelude.{◌≡◌, ℕ, List, [], ◌∷◌, codes, Option}
use Rattle.std.specs.Borrow.{Bor}
use Rattle.filter.specs.declared.condition.Criterion.{Criterion}
use Rattle.command.specs.declared.command.Command.{Command}
use Rattle.command.specs.declared.command.Command.TheVariants.{Filter, Ramp}
use Rattle.command.specs.Words.{Reads, SpellsCriterion, SpellsSlope}

-- a filter: a path and a criterion
abbrev pub AsksFilter : (path cell condition constant : List ℕ) → Command → Type 0
AsksFilter path cell condition constant (Filter p c) = (p.now ≡ path) × SpellsCriterion cell condition constant c
AsksFilter path cell condition constant (Ramp l c) = ⊥

-- a ramp: start, step and count, and a criterion
abbrev pub AsksRamp : (start step count : List ℕ) → Criterion → Command → Type 0
AsksRamp start step count wanted (Filter p c) = ⊥
AsksRamp start step count wanted (Ramp l c) = SpellsSlope start step count l × (c ≡ wanted)

-- five words for a filter, seven for a ramp
pub record FilterWords (name path cell condition constant : Bor (List ℕ)) (c : Command) : Type 0 where
  pub named : name.now ≡ codes "filter"
  pub asks : AsksFilter path.now cell.now condition.now constant.now c

pub record RampWords (name start step count cell condition constant : Bor (List ℕ)) (c : Command) : Type 0 where
  pub named : name.now ≡ codes "ramp"
  pub wanted : Criterion
  pub spells : SpellsCriterion cell.now condition.now constant.now wanted
  pub asks : AsksRamp start.now step.now count.now wanted c

-- no other words ask for anything
abbrev pub Asks : List (Bor (List ℕ)) → Command → Type 0
Asks [] c = ⊥
Asks (w1 ∷ []) c = ⊥
Asks (w1 ∷ (w2 ∷ [])) c = ⊥
Asks (w1 ∷ (w2 ∷ (w3 ∷ []))) c = ⊥
Asks (w1 ∷ (w2 ∷ (w3 ∷ (w4 ∷ [])))) c = ⊥
Asks (w1 ∷ (w2 ∷ (w3 ∷ (w4 ∷ (w5 ∷ []))))) c = FilterWords w1 w2 w3 w4 w5 c
Asks (w1 ∷ (w2 ∷ (w3 ∷ (w4 ∷ (w5 ∷ (w6 ∷ [])))))) c = ⊥
Asks (w1 ∷ (w2 ∷ (w3 ∷ (w4 ∷ (w5 ∷ (w6 ∷ (w7 ∷ []))))))) c = RampWords w1 w2 w3 w4 w5 w6 w7 c
Asks (w1 ∷ (w2 ∷ (w3 ∷ (w4 ∷ (w5 ∷ (w6 ∷ (w7 ∷ (w8 ∷ ws)))))))) c = ⊥

-- there is a command exactly where the words ask for one
abbrev pub ReadsCommand : List (Bor (List ℕ)) → Option Command → Type 0
ReadsCommand ws = Reads (Asks ws)

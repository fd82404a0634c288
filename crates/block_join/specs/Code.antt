-- A block join's fields as its state. Assumes nothing.
use Rattle.std.specs.Prelude.{◌≡◌, ℕ, ◌<◌, Some, None, Option}
use Rattle.operator.specs.declared.answer.Answer.{Answer}
use Rattle.operator.specs.declared.operator.Operator.{Ghosts}
use Rattle.operator.specs.Calls.{Steps}
use Rattle.pairing.specs.Terms.{terms_of}
use Rattle.keeper.specs.Outer.{taken_of}
use Rattle.block.specs.Kept.{kept_of, Enough}
use Rattle.keeper.specs.Keeping.{Keeping, keeping, Lead, Fields}
use Rattle.block_join.specs.declared.phase.Phase.{Phase}
use Rattle.block_join.specs.declared.phase.Phase.TheVariants as phase
use Rattle.block_join.specs.declared.front.Front.{Front}
use Rattle.block_join.specs.declared.parts.Parts.{Parts}
use Rattle.block_join.specs.declared.join.BlockJoin.{BlockJoin}
use Rattle.block_join.specs.Stages.{Stage, empty, filling, scanning, matching}

abbrev pub stage_of : Phase → Stage
stage_of phase.Empty = empty
stage_of phase.Filling = filling
stage_of phase.Scanning = scanning
stage_of (phase.Matching held index) = matching held index

abbrev pub joining : {O I : Type 0} → (o : Ghosts O) → (i : Ghosts I) → BlockJoin O I → Keeping Stage o.State i.State
joining o i s = keeping (terms_of s.rule) (stage_of s.phase) (taken_of o s.outer) (i.state s.inner)

-- a step of a child
abbrev pub Stepped : {O : Type 0} → Ghosts O → Answer → O → O → Type 0
Stepped g r s t = Steps g.machine g.standing (g.state s) r (g.state t)

-- the child that the phase asks is stepped, and the other stays
abbrev pub Asked : {O I : Type 0} → Ghosts O → Ghosts I → Phase → Answer → O → I → O → I → Type 0
Asked o i phase.Empty r x y x' y' = (x' ≡ x) × (y' ≡ y)
Asked o i phase.Filling r x y x' y' = Stepped o r x x' × (y' ≡ y)
Asked o i phase.Scanning r x y x' y' = (x' ≡ x) × Stepped i r y y'
Asked o i (phase.Matching held index) r x y x' y' = (x' ≡ x) × (y' ≡ y)

-- the front of a record as the code has it
abbrev pub front_as : Front → Lead Stage
front_as l = record { stage = stage_of l.phase; form = l.head.form; count = l.head.count; behind = l.behind.now }

abbrev pub front_of : Option Front → Option (Lead Stage)
front_of None = None
front_of (Some l) = Some (front_as l)

-- an index that fits in a byte
abbrev pub Indexed : Stage → Type 0
Indexed empty = Unit {0}
Indexed filling = Unit {0}
Indexed scanning = Unit {0}
Indexed (matching held j) = j < 256

-- the parts of a record as the code has them, for outer rows of the width v
abbrev pub parts_of : ℕ → Option Parts → Option (Fields Stage)
parts_of v None = None
parts_of v (Some q) = Some (record { stage = stage_of q.phase; kept = kept_of v q.stored; tail = q.tail.now })

abbrev pub AllEnough : ℕ → Option Parts → Type 0
AllEnough v None = Unit {0}
AllEnough v (Some q) = Enough v q.stored

-- The number and the word of each refusal, and the operator that it names. Assumes nothing.
use Rattle.std.specs.Prelude.{ℕ, List, Some, None, Ok, Err, codes, Option, Result}
use Rattle.refusal.specs.declared.Refusal.{Refusal}
use Rattle.refusal.specs.declared.Refusal.TheVariants.{Misfit, BadBlock, BadCondition, Outsize, BadList, Short, Version, Torn, Stranger, Unreadable, NoFit, BadSource}

abbrev pub number : Refusal → ℕ
number (Misfit i) = 1
number (BadBlock i) = 2
number (BadCondition i) = 3
number Outsize = 4
number BadList = 5
number Short = 6
number Version = 7
number Torn = 8
number Stranger = 9
number Unreadable = 10
number NoFit = 11
number BadSource = 12

-- the operator that the first three name
abbrev pub operator : Refusal → Option ℕ
operator (Misfit i) = Some i
operator (BadBlock i) = Some i
operator (BadCondition i) = Some i
operator Outsize = None
operator BadList = None
operator Short = None
operator Version = None
operator Torn = None
operator Stranger = None
operator Unreadable = None
operator NoFit = None
operator BadSource = None

-- the bytes of the word
abbrev pub word : Refusal → List ℕ
word (Misfit i) = codes "misfit"
word (BadBlock i) = codes "bad block"
word (BadCondition i) = codes "bad condition"
word Outsize = codes "outsize"
word BadList = codes "bad list"
word Short = codes "short"
word Version = codes "version"
word Torn = codes "torn"
word Stranger = codes "stranger"
word Unreadable = codes "unreadable"
word NoFit = codes "no fit"
word BadSource = codes "bad source"

-- a refusal as promises speak of it: its number, and the operator that it names
pub record Fault : Type 0 where
  pub code : ℕ
  pub at : Option ℕ

abbrev pub fault : Refusal → Fault
fault e = record { code = number e; at = operator e }

-- the fault that a check finds
abbrev pub faults : Result (Unit {0}) Refusal → Option Fault
faults (Ok u) = None
faults (Err e) = Some (fault e)

-- a fault of the operator k
abbrev pub fault_at : ℕ → ℕ → Fault
fault_at code k = record { code = code; at = Some k }

-- the first fault of two
abbrev pub either : Option Fault → Option Fault → Option Fault
either None y = y
either (Some x) y = Some x

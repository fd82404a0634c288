-- What each call of an operator does, by its machine. Assumes nothing.
use Rattle.std.specs.Prelude.{◌≡◌, ℕ, ◌+◌, ◌≤◌, List, length, Some, None, Ok, Err, Option, Result}
use Rattle.refusal.specs.declared.Refusal.{Refusal}
use Rattle.refusal.specs.Numbers.{number, faults}
use Rattle.codec.specs.Written.{Wrote}
use Rattle.operator.specs.declared.answer.Answer.{Answer}
use Rattle.operator.specs.declared.answer.Answer.TheVariants as answer
use Rattle.operator.specs.Machine.{Machine, Move, Good, row, busy, end}

-- a move as a step answers it: the row in the answer, and the next state
abbrev pub Moved : {S : Type 0} → S → Move S → Answer → S → Type 0
Moved s (row x t) (answer.Row y) s' = (s' ≡ t) × (y ≡ x)
Moved s (row x t) answer.Busy s' = ⊥
Moved s (row x t) answer.End s' = ⊥
Moved s (busy t) (answer.Row y) s' = ⊥
Moved s (busy t) answer.Busy s' = s' ≡ t
Moved s (busy t) answer.End s' = ⊥
Moved s end (answer.Row y) s' = ⊥
Moved s end answer.Busy s' = ⊥
Moved s end answer.End s' = s' ≡ s

-- a load: the state that the record stands for, or a refusal as unreadable and the beginning
abbrev pub Loaded : {S : Type 0} → S → Option S → Result (Unit {0}) Refusal → S → Type 0
Loaded begin None (Ok u) t = ⊥
Loaded begin None (Err e) t = (number e ≡ 10) × (t ≡ begin)
Loaded begin (Some s) (Ok u) t = t ≡ s
Loaded begin (Some s) (Err e) t = ⊥

module _ {S : Type 0} (m : Machine S) where
  abbrev pub MeasuresPlan : S → ℕ → Type 0
  MeasuresPlan s n = m.operators s ≤ 16 → n ≡ length (m.plan s)

  abbrev pub WritesPlan : S → List ℕ → List ℕ → Result ℕ Refusal → Type 0
  WritesPlan s old new r = m.operators s ≤ 16 → Wrote (m.plan s) old new r

  abbrev pub Checks : S → ℕ → Result (Unit {0}) Refusal → Type 0
  Checks s first r = first + m.operators s ≤ 16 → faults r ≡ m.flaw s first

  abbrev pub Loads : S → List ℕ → Result (Unit {0}) Refusal → S → Type 0
  Loads s bytes r t = m.operators s ≤ 16 → Loaded (m.begin s) (m.restored s bytes) r t

module _ {S : Type 0} (m : Machine S) (standing : S → Type 0) where
  abbrev pub Steps : S → Answer → S → Type 0
  Steps s r t = Good m standing s → Moved s (m.next s) r t

  abbrev pub Saves : S → List ℕ → List ℕ → List ℕ → Result ℕ Refusal → Type 0
  Saves s choices old new r = Good m standing s → Wrote (m.saved s choices) old new r

  abbrev pub Sizes : S → List ℕ → ℕ → Type 0
  Sizes s choices n = Good m standing s → n ≡ length (m.saved s choices)

  abbrev pub Owes : S → List ℕ → ℕ → Type 0
  Owes s choices n = Good m standing s → n ≡ m.refetch s (m.saved s choices)

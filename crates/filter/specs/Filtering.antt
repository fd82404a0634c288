-- The machine of a filter over its child's, and its meaning: the child's rows that pass, in order. Assumes nothing.
use Rattle.std.specs.Prelude.{ℕ, ◌+◌, Bool, cond, List, [], ◌∷◌, ◌++◌, Some, None, filter, Option}
use Rattle.std.specs.Option.{option_map}
use Rattle.refusal.specs.Numbers.{either}
use Rattle.codec.specs.declared.row.Row.{Row}
use Rattle.codec.specs.Bytes.{Word, word_bytes}
use Rattle.codec.specs.Frames.{framed, body, then}
use Rattle.operator.specs.Machine.{Machine, Move, row, busy, end}
use Rattle.operator.specs.Laws.{Meaning}
use Rattle.filter.specs.Condition.{passing, own_flaw}

pub record Filtering (C : Type 0) : Type 0 where
  pub child : C
  pub cell : ℕ
  pub condition : ℕ
  pub constant : Word

abbrev pub filtering : {C : Type 0} → C → ℕ → ℕ → Word → Filtering C
filtering child cell condition constant = record { child = child; cell = cell; condition = condition; constant = constant }

-- the filter over another child
abbrev pub over : {C : Type 0} → Filtering C → C → Filtering C
over s c = filtering c s.cell s.condition s.constant

-- whether a row passes
abbrev pub passes : {C : Type 0} → Filtering C → Row → Bool
passes s = passing s.cell s.condition s.constant

-- the plan's bytes of the filter itself
abbrev pub head : {C : Type 0} → Filtering C → List ℕ
head s = 2 ∷ (s.cell ∷ (s.condition ∷ word_bytes s.constant))

-- a step from the child's: a row that fails is busy
abbrev pub sifted : {C : Type 0} → Filtering C → Move C → Move (Filtering C)
sifted s (row x t) = cond (passes s x) (row x (over s t)) (busy (over s t))
sifted s (busy t) = busy (over s t)
sifted s end = end

-- the rows to fetch again of a body, if there is one
abbrev pub refetched : (List ℕ → ℕ) → Option (List ℕ) → ℕ
refetched f None = 0
refetched f (Some inside) = f inside

abbrev pub filter_machine : {C : Type 0} → Machine C → Machine (Filtering C)
filter_machine m = record {
  width = λ s. m.width s.child;
  plan = λ s. head s ++ m.plan s.child;
  sources = λ s. m.sources s.child;
  operators = λ s. 1 + m.operators s.child;
  keepers = λ s. m.keepers s.child;
  flaw = λ s k. either (m.flaw s.child (k + 1)) (own_flaw (m.width s.child) s.cell s.condition k);
  next = λ s. sifted s (m.next s.child);
  begin = λ s. over s (m.begin s.child);
  saved = λ s choices. framed (m.saved s.child choices);
  children = λ s choices. m.saved s.child choices ∷ [];
  restored = λ s bytes. option_map (over s) (then (body bytes) (m.restored s.child));
  refetch = λ s bytes. refetched (m.refetch s.child) (body bytes);
}

abbrev pub filter_meaning : {C : Type 0} → Meaning C → Meaning (Filtering C)
filter_meaning d = record {
  whole = λ s. filter (passes s) (d.whole s.child);
  rest = λ s. filter (passes s) (d.rest s.child);
  full = λ s. d.full s.child;
  togo = λ s. d.togo s.child;
  reading = λ s bytes. option_map (filter (passes s)) (then (body bytes) (d.reading s.child));
  standing = λ s. d.standing s.child;
}

-- What lawful code does, in words of the meaning. Assumes nothing.
use Rattle.std.proofs.Common.{◌≤◌, refl, ◌∙◌}
use Rattle.operator.specs.declared.answer.Answer.{Answer}
use Rattle.operator.specs.declared.answer.Answer.TheVariants as answer
use Rattle.operator.specs.Machine.{Machine, Move, Good, row, busy, end}
use Rattle.operator.specs.Calls.{Moved}
use Rattle.operator.specs.Laws.{Meaning, Same, Meant, Laws, Told}

pub same_self : {S : Type 0} (m : Machine S) (s : S) → Same m s s
same_self m s = record { plan = refl; sources = refl }

pub same_then : {S : Type 0} (m : Machine S) (s t u : S) → Same m s t → Same m t u → Same m s u
same_then m s t u e f = record { plan = f.plan ∙ e.plan; sources = f.sources ∙ e.sources }

module _ {S : Type 0} (m : Machine S) (d : Meaning S) (l : Laws m d) where
  -- good standing goes over to the same tree
  pub carried : (s t : S) → m.operators s ≤ 16 → Same m s t → d.standing t → Good m d.standing t
  carried s t few same st = record { stands = st; few = rw (l.by_plan s t same.plan).operators few }

  met : (s t : S) (mv : Move S) (r : Answer) → Good m d.standing s → Meant m d s mv → Moved s mv r t → Good m d.standing t × Same m s t × Told m d s r t
  met s t (row w u) (answer.Row y) g (st, sa, re, to) (e, f) = rw (e, f) (carried s u g.few sa st, sa, (re, to))
  met s t (row w u) answer.Busy g h k = absurd k
  met s t (row w u) answer.End g h k = absurd k
  met s t (busy u) (answer.Row y) g h k = absurd k
  met s t (busy u) answer.Busy g (st, sa, re, to) e = rw e (carried s u g.few sa st, sa, (re, to))
  met s t (busy u) answer.End g h k = absurd k
  met s t end (answer.Row y) g h k = absurd k
  met s t end answer.Busy g h k = absurd k
  met s t end answer.End g (re, to) e = rw e (g, same_self m s, (re, to, refl))

  -- a step
  pub told : (s t : S) (r : Answer) → Good m d.standing s → Moved s (m.next s) r t → Good m d.standing t × Same m s t × Told m d s r t
  told s t r g k = met s t (m.next s) r g (l.moves s g) k

  -- the beginning
  pub begun : (s : S) → m.operators s ≤ 16 → Good m d.standing (m.begin s)
  begun s few = let b = l.begins s in carried s (m.begin s) few b.same b.stands

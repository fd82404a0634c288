-- A run on its way: what it has answered, followed by the rest, is the whole. Assumes nothing.
use Rattle.std.proofs.Common.{◌≡◌, ℕ, ◌+◌, ◌<◌, ◌≤◌, List, [], ◌∷◌, ◌++◌, sym, refl, ap, ◌∙◌, append_assoc, append-nil, arith}
use Rattle.codec.specs.declared.row.Row.{Row}
use Rattle.operator.specs.declared.answer.Answer.TheVariants as answer
use Rattle.operator.specs.Machine.{Machine, Move, Good, row, busy, end}
use Rattle.operator.specs.Calls.{Moved}
use Rattle.operator.specs.Laws.{Meaning, Same, Laws}
use Rattle.operator.proofs.Steps.{same_self, same_then, told, begun}
use Rattle.run.specs.Runs.{Took, no_step, row_step, busy_step, held, Ran}

-- s is the beginning, t where the run stands
pub record Going {S : Type 0} (m : Machine S) (d : Meaning S) (s t : S) (rows : List Row) (steps : ℕ) : Type 0 where
  pub few : m.operators s ≤ 16
  pub same : Same m s t
  pub good : Good m d.standing t
  pub ahead : d.whole s ≡ rows ++ d.rest t
  pub count : ℕ
  pub took : Took m s count rows t
  pub steps_is : steps ≡ held count
  pub within : count + d.togo t ≤ d.full s

-- what an answer says of the move
moved_row : {S : Type 0} (t u : S) (mv : Move S) (y : Row) → Moved t mv (answer.Row y) u → mv ≡ row y u
moved_row t u (row w v) y (e, f) = rw (e, f) refl
moved_row t u (busy v) y h = absurd h
moved_row t u end y h = absurd h

moved_busy : {S : Type 0} (t u : S) (mv : Move S) → Moved t mv answer.Busy u → mv ≡ busy u
moved_busy t u (row w v) h = absurd h
moved_busy t u (busy v) e = rw e refl
moved_busy t u end h = absurd h

moved_end : {S : Type 0} (t u : S) (mv : Move S) → Moved t mv answer.End u → mv ≡ end
moved_end t u (row w v) h = absurd h
moved_end t u (busy v) h = absurd h
moved_end t u end h = refl

module _ {S : Type 0} (m : Machine S) (d : Meaning S) (l : Laws m d) where
  -- from the beginning, which has the same rows and steps to go
  pub starts : (s t : S) → m.operators s ≤ 16 → t ≡ m.begin s → Going m d t t [] 0
  starts s t few e =
      let b = l.begins s in
      let a = l.alike s (m.begin s) b.same in
      let g = begun m d l s few in
      rw e (record {
        few = g.few;
        same = same_self m (m.begin s);
        good = g;
        ahead = a.whole ∙ sym b.rest;
        count = 0;
        took = no_step;
        steps_is = refl;
        within = omega (arith, b.togo, a.full);
      })

  -- one row more
  pub takes : (s t u : S) (rows : List Row) (y : Row) (n n' : ℕ) → Going m d s t rows n → Moved t (m.next t) (answer.Row y) u → n' ≡ held (n + 1) → Going m d s u (rows ++ (y ∷ [])) n' × (d.togo u < d.togo t)
  takes s t u rows y n n' g k e =
      let q = told m d l t u (answer.Row y) g.good k in (
        record {
          few = g.few;
          same = same_then m s t u g.same q.1;
          good = q.0;
          ahead = g.ahead ∙ ap (λ r. rows ++ r) q.2.0 ∙ sym (append_assoc rows (y ∷ []) (d.rest u));
          count = g.count + 1;
          took = row_step y g.took (moved_row t u (m.next t) y k);
          steps_is = omega (arith, g.steps_is);
          within = omega (arith, g.within, q.2.1);
        },
        q.2.1,
      )

  -- none
  pub waits : (s t u : S) (rows : List Row) (n n' : ℕ) → Going m d s t rows n → Moved t (m.next t) answer.Busy u → n' ≡ held (n + 1) → Going m d s u rows n' × (d.togo u < d.togo t)
  waits s t u rows n n' g k e =
      let q = told m d l t u answer.Busy g.good k in (
        record {
          few = g.few;
          same = same_then m s t u g.same q.1;
          good = q.0;
          ahead = g.ahead ∙ ap (λ r. rows ++ r) (sym q.2.0);
          count = g.count + 1;
          took = busy_step g.took (moved_busy t u (m.next t) k);
          steps_is = omega (arith, g.steps_is);
          within = omega (arith, g.within, q.2.1);
        },
        q.2.1,
      )

  -- a row that found no memory
  pub breaks : (s b t u : S) (rows : List Row) (y : Row) (n : ℕ) → m.operators s ≤ 16 → b ≡ m.begin s → Going m d b t rows n → Moved t (m.next t) (answer.Row y) u → (m.operators s ≤ 16) × Same m s u × Good m d.standing u
  breaks s b t u rows y n few e g k =
      let q = takes b t u rows y n (held (n + 1)) g k refl in
      let h : Same m s b = rw e (l.begins s).same in
      (few, same_then m s b u h q.0.same, q.0.good)

  -- and the end
  pub stops : (s b t u : S) (rows : List Row) (n : ℕ) → m.operators s ≤ 16 → b ≡ m.begin s → Going m d b t rows n → Moved t (m.next t) answer.End u → Ran m d s u rows n
  stops s b t u rows n few e g k =
      let q = told m d l t u answer.End g.good k in
      let f : u ≡ t = q.2.2 in
      let h : Same m s b = rw e (l.begins s).same in
      let a = l.alike s b h in
      rw f (record {
        few = few;
        all = sym (g.ahead ∙ ap (λ r. rows ++ r) q.2.0 ∙ append-nil rows) ∙ a.whole;
        count = g.count;
        took = rw e at g.took;
        steps_is = g.steps_is;
        within = omega (arith, g.within, a.full);
        ended = moved_end t u (m.next t) k;
        over = q.2.0;
        same = same_then m s b t h g.same;
        good = g.good;
      })

-- The machine of a filter keeps its meaning if its child's does, and the code keeps to the machine. Assumes nothing.
use Rattle.std.proofs.Common.{◌≡◌, ℕ, ◌+◌, ◌*◌, ◌≤◌, Bool, true, false, cond, List, ◌∷◌, ◌++◌, length, get_or, drop, replicate, ℤ, Some, None, Ok, Err, filter, Option, Result, sym, refl, ap, ◌∙◌, arith, w32, SFits}
use Rattle.std.specs.Option.{option_map}
use Rattle.std.proofs.ByRecursion.{all_kept_by}
use Rattle.std.proofs.lemmas.List.{append-nil}
use Rattle.std.proofs.lemmas.Bool.{cond-true, cond-false}
use Rattle.refusal.specs.declared.Refusal.{Refusal}
use Rattle.refusal.specs.Numbers.{Fault, either}
use Rattle.codec.specs.declared.row.Row.{Row}
use Rattle.codec.specs.Bytes.{Word, word_bytes, cell_word}
use Rattle.codec.specs.Rows.{cell_at}
use Rattle.codec.specs.Frames.{body, then}
use Rattle.codec.proofs.Laws.{cell_back}
use Rattle.codec.proofs.Frames.{body_framed, framed_length, framed_of2, body_length}
use Rattle.plan.specs.Plans.{tree, none, plan_bytes}
use Rattle.operator.specs.declared.answer.Answer.TheVariants as answer
use Rattle.operator.specs.Machine.{Machine, Move, Good, row, busy, end}
use Rattle.operator.specs.Calls.{Moved, Loaded}
use Rattle.operator.specs.Laws.{Meaning, Same, ByPlan, Alike, Meant, Read, Laws}
use Rattle.operator.proofs.Steps.{carried}
use Rattle.filter.specs.Condition.{holds, passing, own_flaw}
use Rattle.filter.specs.Filtering.{Filtering, filtering, over, passes, head, sifted, refetched, filter_machine, filter_meaning}

-- what the code does: a step of the child makes a step of the filter
pub passed : {C : Type 0} (s : Filtering C) (c c' : C) (mv : Move C) (y : Row) → passes s y ≡ true → Moved c mv (answer.Row y) c' → Moved s (sifted s mv) (answer.Row y) (over s c')
passed s c c' (row w t) y p (e, f) =
    let q : passes s w ≡ true = ap (passes s) (sym f) ∙ p in
    rw (cond-true (passes s w) (row w (over s t)) (busy (over s t)) q) (ap (over s) e, f)
passed s c c' (busy t) y p h = absurd h
passed s c c' end y p h = absurd h

pub failed : {C : Type 0} (s : Filtering C) (c c' : C) (mv : Move C) (y : Row) → passes s y ≡ false → Moved c mv (answer.Row y) c' → Moved s (sifted s mv) answer.Busy (over s c')
failed s c c' (row w t) y p (e, f) =
    let q : passes s w ≡ false = ap (passes s) (sym f) ∙ p in
    rw (cond-false (passes s w) (row w (over s t)) (busy (over s t)) q) (ap (over s) e)
failed s c c' (busy t) y p h = absurd h
failed s c c' end y p h = absurd h

pub waited : {C : Type 0} (s : Filtering C) (c' : C) (mv : Move C) → Moved s.child mv answer.Busy c' → Moved s (sifted s mv) answer.Busy (over s c')
waited s c' (row w t) h = absurd h
waited s c' (busy t) e = ap (over s) e
waited s c' end h = absurd h

pub ended : {C : Type 0} (s : Filtering C) (c' : C) (mv : Move C) → Moved s.child mv answer.End c' → Moved s (sifted s mv) answer.End (over s c')
ended s c' (row w t) h = absurd h
ended s c' (busy t) h = absurd h
ended s c' end e = ap (over s) e

pub loaded : {C : Type 0} (s : Filtering C) (b c' : C) (o : Option C) (r : Result (Unit {0}) Refusal) → Loaded b o r c' → Loaded (over s b) (option_map (over s) o) r (over s c')
loaded s b c' None (Ok u) h = absurd h
loaded s b c' None (Err e) (n, f) = (n, ap (over s) f)
loaded s b c' (Some t) (Ok u) f = ap (over s) f
loaded s b c' (Some t) (Err e) h = absurd h

-- a row passes as its cell stands to the number that the filter was made with
pub tested : {C : Type 0} (child : C) (cell condition : ℕ) (constant : ℤ) (y : Row) (b : Bool) → SFits w32 constant → holds condition (cell_at y cell) constant ≡ b → passes (filtering child cell condition (cell_word constant)) y ≡ b
tested child cell condition constant y b f e = ap (holds condition (cell_at y cell)) (cell_back constant f) ∙ e

-- the child has no fault, so the filter's own is the first
pub own_first : (f : ℕ → Option Fault) (first next : ℕ) (x : Option Fault) → next ≡ first + 1 → None ≡ f next → either (f (first + 1)) x ≡ x
own_first f first next x e n = ap (λ o. either o x) (ap f (sym e) ∙ sym n)

-- and what it means
module _ {C : Type 0} (m : Machine C) (d : Meaning C) where
  pub good : (s : Filtering C) → Good (filter_machine m) (filter_meaning d).standing s → Good m d.standing s.child
  good s h = record { stands = h.stands; few = let e = h.few in omega arith }

  same : (s : Filtering C) (c : C) → Same m s.child c → Same (filter_machine m) s (over s c)
  same s c e = record { plan = ap (λ p. head s ++ p) e.plan; sources = e.sources }

  sift : (s : Filtering C) (x : Row) (t : C) (b : Bool) → passes s x ≡ b → Meant m d s.child (row x t) → Meant (filter_machine m) (filter_meaning d) s (cond b (row x (over s t)) (busy (over s t)))
  sift s x t true p (st, sa, re, to) = (st, same s t sa, ap (filter (passes s)) re ∙ cond-true (passes s x) _ _ p, to)
  sift s x t false p (st, sa, re, to) = (st, same s t sa, sym (ap (filter (passes s)) re ∙ cond-false (passes s x) _ _ p), to)

  meant : (s : Filtering C) (mv : Move C) → Meant m d s.child mv → Meant (filter_machine m) (filter_meaning d) s (sifted s mv)
  meant s (row x t) h = sift s x t (passes s x) refl h
  meant s (busy t) (st, sa, re, to) = (st, same s t sa, ap (filter (passes s)) re, to)
  meant s end (re, to) = (ap (filter (passes s)) re, to)

-- the same parameters make the same filter
passing_same : (a a' b b' : ℕ) (k k' : Word) → a' ≡ a → b' ≡ b → k' ≡ k → passing a' b' k' ≡ passing a b k
passing_same a a' b b' k k' p q r = rw (p, q, r)

flaw_same : (f f' : ℕ → Option Fault) (w w' a a' b b' : ℕ) → f' ≡ f → w' ≡ w → a' ≡ a → b' ≡ b
    → ◌≡◌ {A = ℕ → Option Fault} (λ k. either (f' (k + 1)) (own_flaw w' a' b' k)) (λ k. either (f (k + 1)) (own_flaw w a b k))
flaw_same f f' w w' a a' b b' p q r u = rw (p, q, r, u)

few_body : (f : List ℕ → ℕ) (bytes : List ℕ) (o : Option (List ℕ)) → body bytes ≡ o → ((b : List ℕ) → f b ≤ 16 * length b) → refetched f o ≤ 16 * length bytes
few_body f bytes None e h = omega arith
few_body f bytes (Some b) e h = omega (arith, h b, body_length bytes b e)

-- what equal plans say of the parts
word_same : (v w : Word) → w.b3 ≡ v.b3 → w.b2 ≡ v.b2 → w.b1 ≡ v.b1 → w.b0 ≡ v.b0 → w ≡ v
word_same v w p q r u = made v.b3 w.b3 v.b2 w.b2 v.b1 w.b1 v.b0 w.b0 p q r u
  where
    made : (a a' b b' c c' d d' : ℕ) → a' ≡ a → b' ≡ b → c' ≡ c → d' ≡ d → ◌≡◌ {A = Word} (record { b3 = a'; b2 = b'; b1 = c'; b0 = d' }) (record { b3 = a; b2 = b; b1 = c; b0 = d })
    made a a' b b' c c' d d' x y z t = rw (x, y, z, t)

module _ {C : Type 0} (s t : Filtering C) (p q : List ℕ) (e : head t ++ p ≡ head s ++ q) where
  cell_same : t.cell ≡ s.cell
  cell_same = ap (λ l. get_or l 1 0) e

  condition_same : t.condition ≡ s.condition
  condition_same = ap (λ l. get_or l 2 0) e

  constant_same : t.constant ≡ s.constant
  constant_same = word_same s.constant t.constant (ap (λ l. get_or l 3 0) e) (ap (λ l. get_or l 4 0) e) (ap (λ l. get_or l 5 0) e) (ap (λ l. get_or l 6 0) e)

  passes_same : passes t ≡ passes s
  passes_same = passing_same _ _ _ _ _ _ cell_same condition_same constant_same

  over_same : over t ≡ over s
  over_same = same_at _ _ _ _ _ _ cell_same condition_same constant_same
    where
      same_at : (a a' b b' : ℕ) (k k' : Word) → a' ≡ a → b' ≡ b → k' ≡ k → ◌≡◌ {A = C → Filtering C} (λ c. filtering c a' b' k') (λ c. filtering c a b k)
      same_at a a' b b' k k' x y z = rw (x, y, z)

module _ {C : Type 0} (m : Machine C) (d : Meaning C) (l : Laws m d) where
  by_plan : (s t : Filtering C) → (filter_machine m).plan t ≡ (filter_machine m).plan s → ByPlan (filter_machine m) (filter_meaning d) s t
  by_plan s t e =
      let a = l.by_plan s.child t.child (ap (drop 7) e) in
      record {
        width = a.width;
        operators = ap (λ n. 1 + n) a.operators;
        keepers = a.keepers;
        flaw = flaw_same (m.flaw s.child) (m.flaw t.child) _ _ _ _ _ _ a.flaw a.width (cell_same s t _ _ e) (condition_same s t _ _ e);
        refetch = ap {B = List ℕ → ℕ} (λ (g : List ℕ → ℕ). λ bytes. refetched g (body bytes)) a.refetch;
      }

  alike : (s t : Filtering C) → Same (filter_machine m) s t → Alike (filter_machine m) (filter_meaning d) s t
  alike s t h =
      let e = h.plan in
      let a = l.alike s.child t.child (record { plan = ap (drop 7) e; sources = h.sources }) in
      let p : passes t ≡ passes s = passes_same s t _ _ e in
      let o : over t ≡ over s = over_same s t _ _ e in
      record {
        whole = rw (p, a.whole);
        full = a.full;
        reading = ap {B = List ℕ → Option (List Row)} (λ (q : Row → Bool). λ bytes. option_map (filter q) (then (body bytes) (d.reading t.child))) p
            ∙ ap {B = List ℕ → Option (List Row)} (λ (r : List ℕ → Option (List Row)). λ bytes. option_map (filter (passes s)) (then (body bytes) r)) a.reading;
        begin = ap (λ (f : C → Filtering C). f (m.begin t.child)) o ∙ ap (over s) a.begin;
        restored = ap {B = List ℕ → Option (Filtering C)} (λ (f : C → Filtering C). λ bytes. option_map f (then (body bytes) (m.restored t.child))) o
            ∙ ap {B = List ℕ → Option (Filtering C)} (λ (r : List ℕ → Option C). λ bytes. option_map (over s) (then (body bytes) r)) a.restored;
      }

  reread : (s : Filtering C) (bytes b : List ℕ) (o : Option C) (q : Option (List Row)) → m.operators s.child ≤ 16 → body bytes ≡ Some b → Read m d s.child b o q → Read (filter_machine m) (filter_meaning d) s bytes (option_map (over s) o) (option_map (filter (passes s)) q)
  reread s bytes b None None few e h = tt
  reread s bytes b None (Some rows) few e h = absurd h
  reread s bytes b (Some t) None few e h = absurd h
  reread s bytes b (Some t) (Some rows) few e h =
      let g = carried m d l s.child t few h.same h.stands in
      record {
        stands = h.stands;
        same = same m d s t h.same;
        rest = ap (filter (passes s)) h.rest;
        refetch = ap (refetched (m.refetch t)) (body_framed (m.saved t (replicate (m.keepers t) 2)) (omega (arith, l.small t (replicate (m.keepers t) 2) g, g.few))) ∙ h.refetch ∙ ap (refetched (m.refetch s.child)) (sym e);
        wide = all_kept_by (passes s) _ rows h.wide;
      }

  read : (s : Filtering C) (bytes : List ℕ) (o : Option (List ℕ)) → m.operators s.child ≤ 16 → body bytes ≡ o → Read (filter_machine m) (filter_meaning d) s bytes (option_map (over s) (then o (m.restored s.child))) (option_map (filter (passes s)) (then o (d.reading s.child)))
  read s bytes None few e = tt
  read s bytes (Some b) few e = reread s bytes b (m.restored s.child b) (d.reading s.child b) few e (l.reads s.child b few)

  pub laws : Laws (filter_machine m) (filter_meaning d)
  laws = record {
    by_plan = by_plan;
    alike = alike;
    shape = λ s t. let k = l.shape s.child t.child in (omega (arith, k.0), k.1);
    planned = λ s. let k = l.planned s.child in record {
      trees = tree 2 (s.cell ∷ (s.condition ∷ word_bytes s.constant)) k.trees none;
      proper = (omega arith, omega arith, refl, k.one, k.proper, tt);
      one = refl;
      written = ap (λ p. head s ++ p) (append-nil (plan_bytes k.trees) ∙ k.written);
      operators = omega (arith, k.operators);
      keepers = omega (arith, k.keepers);
    };
    sized = λ s. l.sized s.child;
    wide = λ s h. all_kept_by (passes s) _ _ (l.wide s.child (good m d s h));
    moves = λ s h. meant m d s (m.next s.child) (l.moves s.child (good m d s h));
    begins = λ s. let b = l.begins s.child in record { stands = b.stands; same = same m d s _ b.same; rest = ap (filter (passes s)) b.rest; togo = b.togo };
    readback = λ s choices h.
        let k = good m d s h in
        rw (body_framed (m.saved s.child choices) (omega (arith, l.small s.child choices k, k.few))) (ap (option_map (filter (passes s))) (l.readback s.child choices k));
    reads = λ s bytes h. read s bytes (body bytes) (omega arith) refl;
    framed = λ s choices h. let k = good m d s h in framed_of2 (m.saved s.child choices) (omega (arith, l.small s.child choices k, k.few));
    adds = λ s choices h. omega (arith, framed_length (m.saved s.child choices));
    small = λ s choices h. omega (arith, framed_length (m.saved s.child choices), l.small s.child choices (good m d s h));
    few = λ s bytes. few_body (m.refetch s.child) bytes (body bytes) refl (l.few s.child);
  }

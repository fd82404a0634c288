-- Rows fetched again: what it gives, and the loop that does it. Assumes nothing.
use Rattle.std.proofs.Common.{◌≡◌, ℕ, zero, suc, ◌+◌, ◌-◌, ◌<◌, ◌≤◌, List, [], ◌∷◌, ◌++◌, length, Some, None, Ok, Err, Option, sym, refl, ap, ◌∙◌, subst, append_assoc, arith}
use Rattle.std.specs.List.{AllByRecursion}
use Rattle.std.proofs.lemmas.List.{length_push}
use Rattle.std.proofs.ByRecursion.{All-push}
use Rattle.refusal.specs.declared.Refusal.{Refusal}
use Rattle.refusal.specs.Numbers.{number}
use Rattle.codec.specs.declared.row.Row.{Row}
use Rattle.codec.specs.Rows.{Wide}
use Rattle.operator.specs.declared.answer.Answer.TheVariants as answer
use Rattle.operator.specs.Machine.{Machine, Move, Good, row, busy, end}
use Rattle.operator.specs.Calls.{Moved}
use Rattle.operator.specs.Laws.{Meaning, Laws, Same, Meant}
use Rattle.operator.proofs.Steps.{carried, same_self, same_then}
use Rattle.keeper.specs.Taking.{Taken, over, with_row, fetch, fetch_by}
use Rattle.keeper.specs.Outer.{Restores, Fetching}

module _ {S : Type 0} (m : Machine S) (d : Meaning S) (l : Laws m d) where
  -- what n more rows give: the block with them is what was to come, or there were too few
  pub record Got (n : ℕ) (t u : Taken S) : Type 0 where
    pub rows : u.rows ++ d.rest u.child ≡ t.rows ++ d.rest t.child
    pub count : length u.rows ≡ length t.rows + n
    pub contract : u.contract ≡ t.contract
    pub stands : d.standing u.child
    pub same : Same m t.child u.child
    pub wide : AllByRecursion (Wide (m.width t.child)) u.rows

  abbrev pub Gets : ℕ → Taken S → Option (Taken S) → Type 0
  Gets n t None = length (d.rest t.child) < n
  Gets n t (Some u) = Got n t u

  after_row : (n : ℕ) (t : Taken S) (b : Row) (x : S) (v : Option (Taken S)) → Same m t.child x → d.rest t.child ≡ b ∷ d.rest x → Gets n (with_row t b x) v → Gets (suc n) t v
  after_row n t b x None s e h = let k = ap length e in omega arith
  after_row n t b x (Some u) s e h =
      let k = length_push t.rows b in
      let c = h.count in
      record {
        rows = h.rows ∙ append_assoc t.rows (b ∷ []) (d.rest x) ∙ ap (λ (z : List Row). t.rows ++ z) (sym e);
        count = omega arith;
        contract = h.contract;
        stands = h.stands;
        same = same_then m t.child x u.child s h.same;
        wide = subst (λ (w : ℕ). AllByRecursion (Wide w) u.rows) (l.by_plan t.child x s.plan).width h.wide;
      }

  after_busy : (n : ℕ) (t : Taken S) (x : S) (v : Option (Taken S)) → Same m t.child x → d.rest x ≡ d.rest t.child → Gets n (over t x) v → Gets n t v
  after_busy n t x None s e h = let k = ap length e in omega arith
  after_busy n t x (Some u) s e h = record {
    rows = h.rows ∙ ap (λ (z : List Row). t.rows ++ z) e;
    count = h.count;
    contract = h.contract;
    stands = h.stands;
    same = same_then m t.child x u.child s h.same;
    wide = subst (λ (w : ℕ). AllByRecursion (Wide w) u.rows) (l.by_plan t.child x s.plan).width h.wide;
  }

  stuck : (n : ℕ) (x : S) (v : Move S) → d.togo x ≤ 0 → Meant m d x v → length (d.rest x) < suc n
  stuck n x (row b u) k (p, q, r, s) = absurd (omega arith)
  stuck n x (busy u) k (p, q, r, s) = absurd (omega arith)
  stuck n x end k (p, q) = let z = ap length p in omega arith

  by_move : (f n : ℕ) (t : Taken S) (v : Move S) (F : Row → S → Option (Taken S)) (G : S → Option (Taken S)) → m.operators t.child ≤ 16 → d.togo t.child ≤ suc f → AllByRecursion (Wide (m.width t.child)) t.rows → AllByRecursion (Wide (m.width t.child)) (d.rest t.child) → Meant m d t.child v
      → ((b : Row) (x : S) → Good m d.standing x → d.togo x ≤ f → AllByRecursion (Wide (m.width x)) (t.rows ++ (b ∷ [])) → Gets n (with_row t b x) (F b x))
      → ((x : S) → Good m d.standing x → d.togo x ≤ f → AllByRecursion (Wide (m.width x)) t.rows → Gets (suc n) (over t x) (G x))
      → Gets (suc n) t (fetch_by v F G)
  by_move f n t (row b x) F G few k w z (st, sa, re, to) p q =
      after_row n t b x (F b x) sa re (p b x (carried m d l t.child x few sa st) (omega arith) (subst (λ (j : ℕ). AllByRecursion (Wide j) (t.rows ++ (b ∷ []))) (sym (l.by_plan t.child x sa.plan).width) (All-push (Wide (m.width t.child)) t.rows b w (subst (AllByRecursion (Wide (m.width t.child))) re z).0)))
  by_move f n t (busy x) F G few k w z (st, sa, re, to) p q =
      after_busy (suc n) t x (G x) sa re (q x (carried m d l t.child x few sa st) (omega arith) (subst (λ (j : ℕ). AllByRecursion (Wide j) t.rows) (sym (l.by_plan t.child x sa.plan).width) w))
  by_move f n t end F G few k w z (re, to) p q = let j = ap length re in omega arith

  pub gets : (f n : ℕ) (t : Taken S) → Good m d.standing t.child → d.togo t.child ≤ f → AllByRecursion (Wide (m.width t.child)) t.rows → Gets n t (fetch m.next f n t)
  unfolding fetch
  gets f zero t g k w = record { rows = refl; count = omega arith; contract = refl; stands = g.stands; same = same_self m t.child; wide = w }
  gets zero (suc n) t g k w = stuck n t.child (m.next t.child) k (l.moves t.child g)
  gets (suc f) (suc n) t g k w =
      by_move f n t (m.next t.child) _ _ g.few k w (l.wide t.child g) (l.moves t.child g) (λ b x. gets f n (with_row t b x)) (λ x. gets f (suc n) (over t x))

  -- one move of a fetch
  one_row : (f k : ℕ) (t : Taken S) (x : S) (b : Row) → m.next t.child ≡ row b x → fetch m.next (suc f) (suc k) t ≡ fetch m.next f k (with_row t b x)
  unfolding fetch
  one_row f k t x b e = ap (λ (v : Move S). fetch_by v (λ b x. fetch m.next f k (with_row t b x)) (λ x. fetch m.next f (suc k) (over t x))) e

  one_busy : (f k : ℕ) (t : Taken S) (x : S) → m.next t.child ≡ busy x → fetch m.next (suc f) (suc k) t ≡ fetch m.next f (suc k) (over t x)
  unfolding fetch
  one_busy f k t x e = ap (λ (v : Move S). fetch_by v (λ b x. fetch m.next f k (with_row t b x)) (λ x. fetch m.next f (suc k) (over t x))) e

  one_end : (f k : ℕ) (t : Taken S) → m.next t.child ≡ end → fetch m.next f (suc k) t ≡ None
  unfolding fetch
  one_end zero k t e = refl
  one_end (suc f) k t e = ap (λ (v : Move S). fetch_by v (λ b x. fetch m.next f k (with_row t b x)) (λ x. fetch m.next f (suc k) (over t x))) e

  none_left : (f : ℕ) (t : Taken S) → fetch m.next f 0 t ≡ Some t
  unfolding fetch
  none_left f t = refl

  module _ (first : S) (all : Option (Taken S)) (count : ℕ) where
    abbrev On : Taken S → Type 0
    On t = Fetching m d first all count t

    pub starts : (t : Taken S) → m.begin t.child ≡ first → Good m d.standing t.child → t.rows ≡ [] → all ≡ fetch m.next (d.togo t.child) count t → On t
    starts t b g e h =
        let z = ap length e in
        let n : count ≡ count - length t.rows = omega arith in
        record { begins = b; good = g; fits = omega arith; fuel = d.togo t.child; enough = omega arith; left = h ∙ ap (λ (k : ℕ). fetch m.next (d.togo t.child) k t) n }

    row_at : (f : ℕ) (t u : Taken S) (x : S) (b : Row) → m.begin t.child ≡ first → Good m d.standing t.child → length t.rows < count → d.togo t.child ≤ f → all ≡ fetch m.next f (count - length t.rows) t → m.next t.child ≡ row b x → Meant m d t.child (row b x) → u ≡ with_row t b x → On u
    row_at zero t u x b bg g lt en le e (a, s, c, q) h = absurd (omega arith)
    row_at (suc f) t u x b bg g lt en le e (a, s, c, q) h =
        let len = length_push t.rows b in
        let n : count - length t.rows ≡ suc (count - length (t.rows ++ (b ∷ []))) = omega arith in
        let on : On (with_row t b x) = record {
          begins = (l.alike t.child x s).begin ∙ bg;
          good = carried m d l t.child x g.few s a;
          fits = omega arith;
          fuel = f;
          enough = omega arith;
          left = le ∙ ap (λ (j : ℕ). fetch m.next (suc f) j t) n ∙ one_row f (count - length (t.rows ++ (b ∷ []))) t x b e;
        } in
        subst On (sym h) on

    busy_at : (f : ℕ) (t u : Taken S) (x : S) → m.begin t.child ≡ first → Good m d.standing t.child → length t.rows < count → d.togo t.child ≤ f → all ≡ fetch m.next f (count - length t.rows) t → m.next t.child ≡ busy x → Meant m d t.child (busy x) → u ≡ over t x → On u
    busy_at zero t u x bg g lt en le e (a, s, c, q) h = absurd (omega arith)
    busy_at (suc f) t u x bg g lt en le e (a, s, c, q) h =
        let n : count - length t.rows ≡ suc (count - length t.rows - 1) = omega arith in
        let on : On (over t x) = record {
          begins = (l.alike t.child x s).begin ∙ bg;
          good = carried m d l t.child x g.few s a;
          fits = omega arith;
          fuel = f;
          enough = omega arith;
          left = le ∙ ap (λ (j : ℕ). fetch m.next (suc f) j t) n ∙ one_busy f (count - length t.rows - 1) t x e ∙ ap (λ (j : ℕ). fetch m.next f j (over t x)) (sym n);
        } in
        subst On (sym h) on

    -- a turn of the loop: the child answered
    pub row_turn : (t u : Taken S) (x : S) (b : Row) (v : Move S) → On t → length t.rows < count → m.next t.child ≡ v → Meant m d t.child v → Moved t.child v (answer.Row b) x → u ≡ with_row t b x → On u × (d.togo x < d.togo t.child)
    row_turn t u x b (row b' x') o lt e k (p, q) h =
        let z : row b' x' ≡ row b x = cc in
        let k' = subst (Meant m d t.child) z k in
        (row_at o.fuel t u x b o.begins o.good lt o.enough o.left (e ∙ z) k' h, k'.3)
    row_turn t u x b (busy x') o lt e k f h = absurd f
    row_turn t u x b end o lt e k f h = absurd f

    pub busy_turn : (t u : Taken S) (x : S) (v : Move S) → On t → length t.rows < count → m.next t.child ≡ v → Meant m d t.child v → Moved t.child v answer.Busy x → u ≡ over t x → On u × (d.togo x < d.togo t.child)
    busy_turn t u x (row b' x') o lt e k f h = absurd f
    busy_turn t u x (busy x') o lt e k p h =
        let z : busy x' ≡ busy x = cc in
        let k' = subst (Meant m d t.child) z k in
        (busy_at o.fuel t u x o.begins o.good lt o.enough o.left (e ∙ z) k' h, k'.3)
    busy_turn t u x end o lt e k f h = absurd f

    pub end_turn : (t u : Taken S) (x : S) (v : Move S) (r : Refusal) → On t → length t.rows < count → m.next t.child ≡ v → Moved t.child v answer.End x → number r ≡ 10 → Restores all (Err r) u × (m.begin x ≡ first)
    end_turn t u x (row b' x') r o lt e f n10 = absurd f
    end_turn t u x (busy x') r o lt e f n10 = absurd f
    end_turn t u x end r o lt e f n10 =
        let n : count - length t.rows ≡ suc (count - length t.rows - 1) = omega arith in
        let z = o.left ∙ ap (λ (j : ℕ). fetch m.next o.fuel j t) n ∙ one_end o.fuel (count - length t.rows - 1) t e in
        (subst (λ (v : Option (Taken S)). Restores v (Err r) u) (sym z) n10, ap m.begin f ∙ o.begins)

    pub all_there : (t : Taken S) → On t → count ≤ length t.rows → Restores all (Ok tt) t
    all_there t o ge =
        let n : count - length t.rows ≡ 0 = omega arith in
        let z = o.left ∙ ap (λ (j : ℕ). fetch m.next o.fuel j t) n ∙ none_left o.fuel t in
        subst (λ (v : Option (Taken S)). Restores v (Ok tt) t) (sym z) refl

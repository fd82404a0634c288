-- A block recorded and restored: its part keeps the rules, reads back, and what is read stands. Assumes nothing.
use Rattle.std.proofs.Common.{◌≡◌, ℕ, ◌+◌, ◌≤◌, Bool, true, false, List, [], ◌++◌, length, take, drop, Some, None, Option, sym, refl, ap, ◌∙◌, subst, arith, length-append}
use Rattle.std.specs.List.{AllByRecursion}
use Rattle.std.proofs.lemmas.List.{take_at, drop_at}
use Rattle.codec.specs.declared.row.Row.{Row}
use Rattle.codec.specs.Bytes.{of2}
use Rattle.codec.specs.Rows.{Wide}
use Rattle.operator.specs.Machine.{Machine}
use Rattle.operator.specs.Laws.{Meaning, Laws, Same, Read}
use Rattle.operator.proofs.Steps.{carried, same_then}
use Rattle.block.specs.Kept.{Kept, dumped, owed, kept_form, kept_count, kept_bytes, Of}
use Rattle.block.proofs.Options.{of_then, then_so}
use Rattle.block.proofs.Places.{rows_short}
use Rattle.block.proofs.Records.{Sound}
use Rattle.keeper.specs.Taking.{Taken, taken, back_record, way_back, kept_in, kept_by, form_in, form_by, fetch, rebuilt, refetch_kept, Holds, Stands}
use Rattle.keeper.proofs.Fetches.{Gets, gets}
use Rattle.keeper.proofs.Loads.{Came, came}

-- what is held is held by whichever way it is recorded
way_holds : (back : Bool) (f : List ℕ → Option (List Row)) (rows : List Row) (c : Option (List ℕ)) → Holds f rows c → Holds f rows (way_back back c)
way_holds true f rows c h = h
way_holds false f rows c h = tt

sound_in : (v : ℕ) (f : List ℕ → Option (List Row)) (all rows : List Row) (c : Option (List ℕ)) (outer : List ℕ) → Holds f all c → AllByRecursion (Wide v) rows → length outer ≡ 2 + of2 outer → Sound v (kept_in rows c outer)
sound_in v f all rows None outer h w l = (w, l)
sound_in v f all rows (Some c) outer h w l = (h.one, h.short)

count_in : (rows : List Row) (c : Option (List ℕ)) (outer : List ℕ) → kept_count (kept_in rows c outer) ≡ length rows
count_in rows None outer = refl
count_in rows (Some c) outer = refl

form_is : (rows : List Row) (c : Option (List ℕ)) (outer : List ℕ) → kept_form (kept_in rows c outer) ≡ form_in c
form_is rows None outer = refl
form_is rows (Some c) outer = refl

short_in : (v : ℕ) (f : List ℕ → Option (List Row)) (all rows : List Row) (c : Option (List ℕ)) (outer : List ℕ) → v ≤ 8 → length rows ≤ 16 → Holds f all c → length (kept_bytes v (kept_in rows c outer)) ≤ 512 + length outer
short_in v f all rows None outer le few h = simp length-append (omega (arith, rows_short v rows le))
short_in v f all rows (Some c) outer le few h = omega (arith, h.short)

pub kept_counts : {S : Type 0} (back : Bool) (t : Taken S) (outer : List ℕ) → kept_count (kept_by back t outer) ≡ length t.rows
kept_counts back t outer = count_in t.rows (way_back back t.contract) outer

pub kept_forms : {S : Type 0} (back : Bool) (t : Taken S) (outer : List ℕ) → kept_form (kept_by back t outer) ≡ form_by back t.contract
kept_forms back t outer = form_is t.rows (way_back back t.contract) outer

module _ {S : Type 0} (m : Machine S) (d : Meaning S) (l : Laws m d) where
  pub kept_sound : (back : Bool) (t : Taken S) (outer : List ℕ) → Stands m d t → length outer ≡ 2 + of2 outer → Sound (m.width t.child) (kept_by back t outer)
  kept_sound back t outer st h = sound_in (m.width t.child) (d.reading t.child) (t.rows ++ d.rest t.child) t.rows (way_back back t.contract) outer (way_holds back _ _ t.contract st.holds) st.wide h

  pub kept_fits : (back : Bool) (t : Taken S) (outer : List ℕ) → Stands m d t → m.width t.child ≤ 8 → length t.rows ≤ 16 → length (kept_bytes (m.width t.child) (kept_by back t outer)) ≤ 512 + length outer
  kept_fits back t outer st le few = short_in (m.width t.child) (d.reading t.child) (t.rows ++ d.rest t.child) t.rows (way_back back t.contract) outer le few (way_holds back _ _ t.contract st.holds)

  -- a record that reads as the rows restores a child from which they come
  pub record Back (x : S) (bytes : List ℕ) (rows : List Row) : Type 0 where
    pub child : S
    pub is : m.restored x bytes ≡ Some child
    pub stands : d.standing child
    pub same : Same m x child
    pub rest : d.rest child ≡ rows

  back_by : (x : S) (bytes : List ℕ) (rows : List Row) (v : Option S) → m.restored x bytes ≡ v → Of (Came m d l x bytes) v → d.reading x bytes ≡ Some rows → Read m d x bytes v (d.reading x bytes) → Back x bytes rows
  back_by x bytes rows None e h k r = absurd (no (d.reading x bytes) k r)
    where
      no : (w : Option (List Row)) → w ≡ Some rows → Read m d x bytes None w → ⊥
      no None q r = let z : ◌≡◌ {A = ℕ} 0 1 = cc in omega arith
      no (Some rs) q r = r
  back_by x bytes rows (Some t) e h k r = let q : Some (d.rest t) ≡ Some rows = sym h.reads ∙ k in record { child = t; is = e; stands = h.stands; same = h.same; rest = cc }

  pub back : (x : S) (bytes : List ℕ) (rows : List Row) → m.operators x ≤ 16 → d.reading x bytes ≡ Some rows → Back x bytes rows
  back x bytes rows few e = back_by x bytes rows (m.restored x bytes) refl (came m d l x bytes few) e (l.reads x bytes few)

  -- the block restored as it was
  pub record Again (t : Taken S) (k : Kept) : Type 0 where
    pub built : Taken S
    pub is : rebuilt m d.togo (m.restored t.child) k ≡ Some built
    pub rows : built.rows ≡ t.rows
    pub same : Same m t.child built.child
    pub rest : d.rest built.child ≡ d.rest t.child

  refetched : (t : Taken S) (c : List ℕ) (x : S) (v : Option (Taken S)) → m.restored t.child c ≡ Some x → Same m t.child x → d.rest x ≡ t.rows ++ d.rest t.child → fetch m.next (d.togo x) (length t.rows) (taken [] (Some c) x) ≡ v → Gets m d l (length t.rows) (taken [] (Some c) x) v → Again t (owed (length t.rows) c)
  refetched t c x None p s q u h = absurd (omega (arith, ap length q, length-append t.rows (d.rest t.child)))
  refetched t c x (Some f) p s q u h =
      let z : f.rows ++ d.rest f.child ≡ t.rows ++ d.rest t.child = h.rows ∙ q in
      let len : length f.rows ≡ length t.rows = omega (arith, h.count) in
      record {
        built = f;
        is = then_so _ _ x p ∙ u;
        rows = sym (take_at f.rows _ (length t.rows) len) ∙ ap (take (length t.rows)) z ∙ take_at t.rows _ (length t.rows) refl;
        same = same_then m t.child x f.child s h.same;
        rest = sym (drop_at f.rows _ (length t.rows) len) ∙ ap (drop (length t.rows)) z ∙ drop_at t.rows _ (length t.rows) refl;
      }

  again_in : (t : Taken S) (c : Option (List ℕ)) (outer : List ℕ) → m.operators t.child ≤ 16 → Holds (d.reading t.child) (t.rows ++ d.rest t.child) c → Back t.child outer (d.rest t.child) → Again t (kept_in t.rows c outer)
  again_in t None outer few h k = record { built = taken t.rows None k.child; is = then_so _ _ k.child k.is; rows = refl; same = k.same; rest = k.rest }
  again_in t (Some c) outer few h k =
      let q = back t.child c (t.rows ++ d.rest t.child) few h.reads in
      refetched t c q.child (fetch m.next (d.togo q.child) (length t.rows) (taken [] (Some c) q.child)) q.is q.same q.rest refl
      (gets m d l (d.togo q.child) (length t.rows) (taken [] (Some c) q.child) (carried m d l t.child q.child few q.same q.stands) (omega arith) tt)

  pub kept_again : (way : Bool) (t : Taken S) (outer : List ℕ) → m.operators t.child ≤ 16 → Stands m d t → Back t.child outer (d.rest t.child) → Again t (kept_by way t outer)
  kept_again way t outer few st k = again_in t (way_back way t.contract) outer few (way_holds way _ _ t.contract st.holds) k

  -- any block restored stands, and owes the rows that its part owes
  pub record Built (x : S) (k : Kept) (t : Taken S) : Type 0 where
    pub stands : Stands m d t
    pub same : Same m x t.child
    pub count : length t.rows ≡ kept_count k
    pub dumped : kept_form k ≡ 1 → t.contract ≡ None
    pub refetch : refetch_kept (m.refetch t.child) (kept_by true t (back_record m t.child)) ≡ refetch_kept (m.refetch x) k

  fetched : (x : S) (n : ℕ) (c : List ℕ) (y : S) → Came m d l x c y → length c ≡ 2 + of2 c → length c ≤ 512 → (v : Option (Taken S)) → Gets m d l n (taken [] (Some c) y) v → Of (Built x (owed n c)) v
  fetched x n c y k one short None h = tt
  fetched x n c y k one short (Some t) h =
      let same = same_then m x y t.child k.same h.same in
      let a = l.alike x t.child same in
      let b = l.by_plan x t.child same.plan in
      let z : length t.rows ≡ n = omega (arith, h.count) in
      let held : Holds (d.reading t.child) (t.rows ++ d.rest t.child) (Some c) = record { one = one; short = short; reads = ap (λ (g : List ℕ → Option (List Row)). g c) a.reading ∙ k.reads ∙ ap (λ (u : List Row). Some u) (sym h.rows) } in
      record {
        stands = record {
          child = h.stands;
          holds = subst (Holds (d.reading t.child) (t.rows ++ d.rest t.child)) (sym h.contract) held;
          wide = subst (λ (w : ℕ). AllByRecursion (Wide w) t.rows) (sym (l.by_plan y t.child h.same.plan).width) h.wide;
        };
        same = same;
        count = z;
        dumped = λ e. absurd (omega arith);
        refetch = ap (λ (u : Option (List ℕ)). refetch_kept (m.refetch t.child) (kept_in t.rows u (back_record m t.child))) h.contract ∙ ap (λ (j : ℕ). j + m.refetch t.child c) z ∙ ap (λ (g : List ℕ → ℕ). n + g c) b.refetch;
      }

  pub built : (x : S) (k : Kept) → m.operators x ≤ 16 → Sound (m.width x) k → Of (Built x k) (rebuilt m d.togo (m.restored x) k)
  built x (dumped rows outer) few (w, one) = of_then _ _ (m.restored x outer) _ (came m d l x outer few) (λ y k. record {
    stands = record { child = k.stands; holds = tt; wide = subst (λ (z : ℕ). AllByRecursion (Wide z) rows) (sym (l.by_plan x y k.same.plan).width) w };
    same = k.same;
    count = refl;
    dumped = λ e. refl;
    refetch = k.refetch;
  })
  built x (owed n c) few (one, short) = of_then _ _ (m.restored x c) _ (came m d l x c few) (λ y k.
      fetched x n c y k one short (fetch m.next (d.togo y) n (taken [] (Some c) y)) (gets m d l (d.togo y) n (taken [] (Some c) y) (carried m d l x y few k.same k.stands) (omega arith) tt))

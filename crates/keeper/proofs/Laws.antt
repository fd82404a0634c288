-- The laws of an operator over a block follow from its children's, its own steps and the width of its rows. Assumes nothing.
use Rattle.std.proofs.Common.{◌≡◌, ℕ, ◌+◌, ◌*◌, ◌<◌, ◌≤◌, Bool, true, false, List, ◌∷◌, ◌++◌, length, take, drop, replicate, Some, None, Option, sym, refl, ap, ◌∙◌, subst, one-add, arith, length-append}
use Rattle.std.specs.List.{AllByRecursion}
use Rattle.std.proofs.lemmas.List.{take-replicate, drop-replicate}
use Rattle.std.proofs.lemmas.Bool.{eq-eqb}
use Rattle.refusal.specs.Numbers.{Fault, either}
use Rattle.codec.specs.declared.row.Row.{Row}
use Rattle.codec.specs.Bytes.{of2}
use Rattle.codec.specs.Frames.{then}
use Rattle.codec.specs.Rows.{Wide}
use Rattle.codec.proofs.Frames.{framed_length, framed_of2}
use Rattle.operator.specs.Machine.{Machine, Move, Good}
use Rattle.operator.specs.Laws.{Meaning, Laws, Same, ByPlan, Alike, Meant, Begun, Read}
use Rattle.pairing.specs.Terms.{Terms, terms_bytes, block_size}
use Rattle.block.specs.Choices.{goes_back, choices_of_outer, choices_of_inner}
use Rattle.block.specs.Kept.{Kept, dumped, owed, kept_form, kept_count, kept_record, Of, tailed}
use Rattle.block.proofs.Options.{of_then, then_so}
use Rattle.keeper.specs.Taking.{Taken, untaken, back_record, kept_by, rebuilt, refetch_kept}
use Rattle.keeper.specs.Keeping.{Keeping, keeping, Kind, Sense, Fields, only, inside, parsed, refetch_tail, refetch_in, refetch_of, refetch_by, inner_at, resumed, restored_by, outer_record, inner_record, fields, keeper_machine, keeper_meaning, rest_of, Standing}
use Rattle.keeper.specs.Proper.{Proper}
use Rattle.keeper.proofs.Standing.{drops}
use Rattle.keeper.proofs.Loads.{Came, came}
use Rattle.keeper.proofs.Plans.{planned_over, cut_front, parts}
use Rattle.keeper.proofs.Records.{Valid, parsed_ok, parsed_back}
use Rattle.keeper.proofs.Restores.{kept_counts, kept_forms, kept_sound, kept_fits, Back, back, kept_again, Built, built}

-- the block size is 1 to 16
pub size_some : (r : Terms) → 1 ≤ block_size r
size_some r = omega arith

pub size_few : (r : Terms) → block_size r ≤ 16
size_few r = omega arith

-- equal parts make equal results
cong5 : {A B C D E R : Type 0} (f : A → B → C → D → E → R) {a a' : A} {b b' : B} {c c' : C} {d d' : D} {e e' : E} → a ≡ a' → b ≡ b' → c ≡ c' → d ≡ d' → e ≡ e' → f a b c d e ≡ f a' b' c' d' e'
cong5 f p q r s t = cc

cong6 : {A B C D E F R : Type 0} (f : A → B → C → D → E → F → R) {a a' : A} {b b' : B} {c c' : C} {d d' : D} {e e' : E} {g g' : F} → a ≡ a' → b ≡ b' → c ≡ c' → d ≡ d' → e ≡ e' → g ≡ g' → f a b c d e g ≡ f a' b' c' d' e' g'
cong6 f p q r s t u = cc

-- the inner child's record as a tail
tail_ok : (b : Bool) (bytes : List ℕ) → length bytes ≡ 2 + of2 bytes → tailed b (only b bytes) ≡ true
tail_ok true bytes e = eq-eqb _ _ e
tail_ok false bytes e = refl

only_short : (b : Bool) (bytes : List ℕ) → length (only b bytes) ≤ length bytes
only_short true bytes = omega arith
only_short false bytes = omega arith

module _ {G S T : Type 0} (k : Kind G) (n : Sense G) (p : Proper k n) (o : Machine S) (d : Meaning S) (lo : Laws o d) (i : Machine T) (e : Meaning T) (li : Laws i e) (next : Keeping G S T → Move (Keeping G S T)) where
  abbrev pub m : Machine (Keeping G S T)
  m = keeper_machine k o d.togo i next

  abbrev pub w : Meaning (Keeping G S T)
  w = keeper_meaning k n o d i e next

  -- the children stand too
  pub good_outer : (s : Keeping G S T) → Good m w.standing s → Good o d.standing s.outer.child
  good_outer s g = record { stands = g.stands.outer.child; few = omega (arith, g.few) }

  pub good_inner : (s : Keeping G S T) → Good m w.standing s → Good i e.standing s.inner
  good_inner s g = record { stands = g.stands.inner; few = omega (arith, g.few) }

  pub same_in : (r : Terms) (g g' : G) (t t' : Taken S) (y y' : T) → Same o t.child t'.child → Same i y y' → Same m (keeping r g t y) (keeping r g' t' y')
  same_in r g g' t t' y y' a b = let a0 = a.plan in let a1 = a.sources in let b0 = b.plan in let b1 = b.sources in record { plan = cc; sources = cc }

  -- the plan tells the parameters and the children's plans
  record Told (s t : Keeping G S T) : Type 0 where
    terms : t.terms ≡ s.terms
    outer : o.plan t.outer.child ≡ o.plan s.outer.child
    inner : i.plan t.inner ≡ i.plan s.inner

  told : (s t : Keeping G S T) → m.plan t ≡ m.plan s → Told s t
  told s t h =
      let q = parts k.number s.terms t.terms (o.plan s.outer.child ++ i.plan s.inner) (o.plan t.outer.child ++ i.plan t.inner) h in
      let c = cut_front (o.plan s.outer.child) (o.plan t.outer.child) (i.plan s.inner) (i.plan t.inner) (lo.shape s.outer.child t.outer.child).0 q.behind in
      record { terms = q.terms; outer = c.0; inner = c.1 }

  flaw_same : (f f' g g' : ℕ → Option Fault) (a a' : ℕ) (r r' : Terms) (v v' u u' : ℕ) → f' ≡ f → g' ≡ g → a' ≡ a → r' ≡ r → v' ≡ v → u' ≡ u
      → ◌≡◌ {A = ℕ → Option Fault} (λ j. either (f' (j + 1)) (either (g' (j + 1 + a')) (k.flaw r' v' u' j))) (λ j. either (f (j + 1)) (either (g (j + 1 + a)) (k.flaw r v u j)))
  flaw_same f f' g g' a a' r r' v v' u u' p1 p2 p3 p4 p5 p6 = rw (p1, p2, p3, p4, p5, p6)

  by_plan : (s t : Keeping G S T) → m.plan t ≡ m.plan s → ByPlan m w s t
  by_plan s t h =
      let q = told s t h in
      let a = lo.by_plan s.outer.child t.outer.child q.outer in
      let b = li.by_plan s.inner t.inner q.inner in
      let aw = a.width in
      let bw = b.width in
      let ao = a.operators in
      let bo = b.operators in
      let ak = a.keepers in
      let bk = b.keepers in
      record {
        width = cc;
        operators = cc;
        keepers = cc;
        flaw = flaw_same (o.flaw s.outer.child) (o.flaw t.outer.child) (i.flaw s.inner) (i.flaw t.inner) _ _ s.terms t.terms _ _ _ _ a.flaw b.flaw ao q.terms aw bw;
        refetch = cong5 (refetch_by k.phases) q.terms aw bw a.refetch b.refetch;
      }

  record Apart (s t : Keeping G S T) : Type 0 where
    terms : t.terms ≡ s.terms
    outer : Same o s.outer.child t.outer.child
    inner : Same i s.inner t.inner

  apart : (s t : Keeping G S T) → Same m s t → Apart s t
  apart s t h =
      let q = told s t h.plan in
      let c = cut_front (o.sources s.outer.child) (o.sources t.outer.child) (i.sources s.inner) (i.sources t.inner) (lo.shape s.outer.child t.outer.child).1 h.sources in
      record { terms = q.terms; outer = record { plan = q.outer; sources = c.0 }; inner = record { plan = q.inner; sources = c.1 } }

  alike : (s t : Keeping G S T) → Same m s t → Alike m w s t
  alike s t h =
      let q = apart s t h in
      let a = lo.alike s.outer.child t.outer.child q.outer in
      let b = li.alike s.inner t.inner q.inner in
      let aw = (lo.by_plan s.outer.child t.outer.child q.outer.plan).width in
      let bw = (li.by_plan s.inner t.inner q.inner.plan).width in
      let r = q.terms in
      let ab = a.begin in
      let bb = b.begin in
      let ah = a.whole in
      let bh = b.whole in
      let af = a.full in
      let bf = b.full in
      let back = cong6 (restored_by k.phases o d.togo) r aw bw a.restored b.restored bb in
      record {
        whole = cc;
        full = cc;
        reading = ap {B = List ℕ → Option (List Row)} (λ (f : List ℕ → Option (Keeping G S T)). λ bytes. then (f bytes) (λ u. Some (rest_of k n o d i e u))) back;
        begin = cc;
        restored = back;
      }

  shape : (s t : Keeping G S T) → (length (m.plan t) ≡ length (m.plan s)) × (length (m.sources t) ≡ length (m.sources s))
  shape s t =
      let a = lo.shape s.outer.child t.outer.child in
      let b = li.shape s.inner t.inner in
      let a0 = a.0 in
      let b0 = b.0 in
      let a1 = a.1 in
      let b1 = b.1 in
      (simp length-append (omega arith), simp length-append (omega arith))

  begins : (s : Keeping G S T) → Begun m w s (m.begin s)
  begins s =
      let x = s.outer.child in
      let y = s.inner in
      let a = lo.begins x in
      let b = li.begins y in
      let xw = (lo.by_plan x (o.begin x) a.same.plan).width in
      let ah = lo.alike x (o.begin x) a.same in
      let bh = li.alike y (i.begin y) b.same in
      let h0 = bh.whole in
      let h1 = bh.full in
      let r0 = a.rest in
      let r1 = b.rest in
      let t0 = a.togo in
      let t1 = b.togo in
      record {
        stands = record { outer = drops o d lo (o.begin x) a.stands; inner = b.stands; ruled = p.begins (block_size s.terms) (i.width (i.begin y)); begins = λ _. sym bh.begin };
        same = same_in s.terms s.stage k.phases.empty s.outer (untaken (o.begin x)) y (i.begin y) a.same b.same;
        rest = cc;
        togo = cc;
      }

  -- how long a record is
  module _ (s : Keeping G S T) (choices : List ℕ) (g : Good m w.standing s) where
    abbrev ob : List ℕ
    ob = outer_record k.phases o i s choices

    abbrev ib : List ℕ
    ib = inner_record k.phases o i s choices

    abbrev parts_of : Fields G
    parts_of = fields k.phases o i s choices

    abbrev in_it : List ℕ
    in_it = inside k.phases (o.width s.outer.child) (i.width s.inner) parts_of

    few_rows : length s.outer.rows ≤ 16
    few_rows = omega (arith, p.counted (block_size s.terms) (i.width s.inner) s.stage s.outer.rows s.outer.contract g.stands.ruled, size_few s.terms)

    adds_in : length in_it ≤ 576 + (length ob + length ib)
    adds_in =
        let a = p.short (i.width s.inner) (kept_form parts_of.kept) (kept_count parts_of.kept) s.stage (li.sized s.inner).1 in
        let b = kept_fits o d lo (goes_back choices) s.outer ob g.stands.outer (lo.sized s.outer.child).1 few_rows in
        let c = only_short (k.phases.scans s.stage) ib in
        simp length-append (omega arith)

    adds : length (m.saved s choices) ≤ 1024 + (length ob + (length ib + 0))
    adds = omega (arith, framed_length in_it, adds_in)

    small : length (m.saved s choices) ≤ 1024 * m.operators s
    small = omega (arith, framed_length in_it, adds_in, lo.small s.outer.child (choices_of_outer (o.keepers s.outer.child) choices) (good_outer s g), li.small s.inner (choices_of_inner (o.keepers s.outer.child) choices) (good_inner s g))

    short : length in_it < 65536
    short = omega (arith, framed_length in_it, small, g.few)

    one_frame : length (m.saved s choices) ≡ 2 + of2 (m.saved s choices)
    one_frame = framed_of2 in_it short

    -- a record parses as the parts that it was made of
    pub saved_parsed : parsed k.phases (block_size s.terms) (o.width s.outer.child) (i.width s.inner) (m.saved s choices) ≡ Some parts_of
    saved_parsed =
        parsed_back k n p (block_size s.terms) (o.width s.outer.child) (i.width s.inner) (goes_back choices) s.stage s.outer.rows s.outer.contract parts_of.kept parts_of.tail
        (size_few s.terms) (lo.sized s.outer.child).1 (li.sized s.inner).1 g.stands.ruled (kept_forms (goes_back choices) s.outer ob) (kept_counts (goes_back choices) s.outer ob)
        (kept_sound o d lo (goes_back choices) s.outer ob g.stands.outer (lo.framed s.outer.child (choices_of_outer (o.keepers s.outer.child) choices) (good_outer s g)))
        (tail_ok (k.phases.scans s.stage) ib (li.framed s.inner (choices_of_inner (o.keepers s.outer.child) choices) (good_inner s g))) short

  -- the inner child restored as it was
  record InnerBack (y : T) (scans : Bool) (tail : List ℕ) : Type 0 where
    child : T
    is : inner_at scans (i.restored y) (i.begin y) tail ≡ Some child
    same : Same i y child
    rest : e.rest child ≡ e.rest y

  inner_back : (y : T) (scans : Bool) (bytes : List ℕ) → (scans ≡ false → y ≡ i.begin y) → Back i e li y bytes (e.rest y) → InnerBack y scans (only scans bytes)
  inner_back y true bytes f h = record { child = h.child; is = h.is; same = h.same; rest = h.rest }
  inner_back y false bytes f h = record { child = i.begin y; is = refl; same = (li.begins y).same; rest = ap e.rest (sym (f refl)) }

  -- the rows to come over other children with the same rows to come
  rest_over : (r : Terms) (g : G) (t u : Taken S) (y z : T) → u.rows ≡ t.rows → Same o t.child u.child → Same i y z → d.rest u.child ≡ d.rest t.child → e.rest z ≡ e.rest y → rest_of k n o d i e (keeping r g u z) ≡ rest_of k n o d i e (keeping r g t y)
  rest_over r g t u y z b sa sb ra rb =
      let vw = (lo.by_plan t.child u.child sa.plan).width in
      let wh = (li.alike y z sb).whole in
      cc

  readback : (s : Keeping G S T) (choices : List ℕ) → Good m w.standing s → w.reading s (m.saved s choices) ≡ Some (w.rest s)
  readback s choices g =
      let x = s.outer.child in
      let y = s.inner in
      let go = good_outer s g in
      let gi = good_inner s g in
      let oc = choices_of_outer (o.keepers x) choices in
      let ic = choices_of_inner (o.keepers x) choices in
      let f = fields k.phases o i s choices in
      let a = kept_again o d lo (goes_back choices) s.outer (o.saved x oc) go.few g.stands.outer (back o d lo x (o.saved x oc) (d.rest x) go.few (lo.readback x oc go)) in
      let b = inner_back y (k.phases.scans s.stage) (i.saved y ic) g.stands.begins (back i e li y (i.saved y ic) (e.rest y) gi.few (li.readback y ic gi)) in
      let res : m.restored s (m.saved s choices) ≡ Some (keeping s.terms s.stage a.built b.child) = then_so _ _ f (saved_parsed s choices g) ∙ then_so _ _ a.built a.is ∙ then_so _ _ b.child b.is in
      then_so _ _ (keeping s.terms s.stage a.built b.child) res ∙ ap (λ (l : List Row). Some l) (rest_over s.terms s.stage s.outer a.built y b.child a.rows a.same b.same a.rest b.rest)

  -- every choice set to go back
  twos : (s : Keeping G S T) → fields k.phases o i s (replicate (m.keepers s) 2) ≡ record { stage = s.stage; kept = kept_by true s.outer (back_record o s.outer.child); tail = only (k.phases.scans s.stage) (back_record i s.inner) }
  twos s =
      let a = o.keepers s.outer.child in
      let b = i.keepers s.inner in
      let z : replicate {A = ℕ} (1 + (a + b)) 2 ≡ 2 ∷ replicate (a + b) 2 = ap (λ (j : ℕ). replicate {A = ℕ} j 2) (one-add (a + b)) in
      let q : take a (replicate {A = ℕ} (a + b) 2) ≡ replicate a 2 = take-replicate {X = ℕ} a (a + b) 2 (omega arith) in
      let u : drop a (replicate {A = ℕ} (a + b) 2) ≡ replicate b 2 = drop-replicate {X = ℕ} a (a + b) 2 ∙ ap (λ (j : ℕ). replicate {A = ℕ} j 2) (omega arith) in
      ap (fields k.phases o i s) z
      ∙ ap (λ (l : List ℕ). record { stage = s.stage; kept = kept_by true s.outer (o.saved s.outer.child l); tail = only (k.phases.scans s.stage) (i.saved s.inner (drop a (replicate (a + b) 2))) }) q
      ∙ ap (λ (l : List ℕ). record { stage = s.stage; kept = kept_by true s.outer (back_record o s.outer.child); tail = only (k.phases.scans s.stage) (i.saved s.inner l) }) u

  -- the inner child restored from any record
  record InnerCame (y : T) (scans : Bool) (tail : List ℕ) (z : T) : Type 0 where
    stands : e.standing z
    same : Same i y z
    begins : scans ≡ false → z ≡ i.begin z
    refetch : refetch_tail scans (i.refetch z) (only scans (back_record i z)) ≡ refetch_tail scans (i.refetch y) tail

  came_at : (y z : T) (tail : List ℕ) → Came i e li y tail z → InnerCame y true tail z
  came_at y z tail h = record { stands = h.stands; same = h.same; begins = λ q. absurd (let c : ◌≡◌ {A = ℕ} 0 1 = cc in omega arith); refetch = h.refetch }

  came_all : (y : T) (tail : List ℕ) (v : Option T) → Of (Came i e li y tail) v → Of (InnerCame y true tail) v
  came_all y tail None h = tt
  came_all y tail (Some z) h = came_at y z tail h

  inner_came : (y : T) (scans : Bool) (tail : List ℕ) → i.operators y ≤ 16 → Of (InnerCame y scans tail) (inner_at scans (i.restored y) (i.begin y) tail)
  inner_came y true tail few = came_all y tail (i.restored y tail) (came i e li y tail few)
  inner_came y false tail few = record { stands = (li.begins y).stands; same = (li.begins y).same; begins = λ _. sym (li.alike y (i.begin y) (li.begins y).same).begin; refetch = refl }

  -- an operator restored from the parts of a record
  record Whole (s : Keeping G S T) (f : Fields G) (t : Keeping G S T) : Type 0 where
    stands : Standing k n o d i e t
    same : Same m s t
    refetch : m.refetch t (m.saved t (replicate (m.keepers t) 2)) ≡ refetch_in k.phases (o.refetch s.outer.child) (i.refetch s.inner) f

  module _ (s : Keeping G S T) (few : m.operators s ≤ 16) where
    finish : (f : Fields G) (u : Taken S) (z : T) → n.ruled (block_size s.terms) (i.width s.inner) f.stage u.rows u.contract → Built o d lo s.outer.child f.kept u → InnerCame s.inner (k.phases.scans f.stage) f.tail z → Whole s f (keeping s.terms f.stage u z)
    finish f u z ru a b =
        let t = keeping s.terms f.stage u z in
        let aw = lo.by_plan s.outer.child u.child a.same.plan in
        let bw = li.by_plan s.inner z b.same.plan in
        let st : Standing k n o d i e t = record { outer = a.stands; inner = b.stands; ruled = subst (λ (j : ℕ). n.ruled (block_size s.terms) j f.stage u.rows u.contract) (sym bw.width) ru; begins = b.begins } in
        let g : Good m w.standing t = record { stands = st; few = omega (arith, aw.operators, bw.operators) } in
        let ar = a.refetch in
        let br = b.refetch in
        record {
          stands = st;
          same = same_in s.terms s.stage f.stage s.outer u s.inner z a.same b.same;
          refetch = ap (refetch_of k.phases (o.refetch u.child) (i.refetch z)) (saved_parsed t (replicate (m.keepers t) 2) g ∙ ap (λ (q : Fields G). Some q) (twos t)) ∙ cc;
        }

    resumed_ok : (bytes : ℕ) (f : Fields G) → Valid k n p (block_size s.terms) (o.width s.outer.child) (i.width s.inner) bytes f → Of (Whole s f) (resumed k.phases o d.togo s.terms (o.restored s.outer.child) (i.restored s.inner) (i.begin s.inner) f)
    resumed_ok bytes f h =
        of_then _ _ (rebuilt o d.togo (o.restored s.outer.child) f.kept) _ (built o d lo s.outer.child f.kept (omega arith) h.sound) (λ u a.
        of_then _ _ (inner_at (k.phases.scans f.stage) (i.restored s.inner) (i.begin s.inner) f.tail) _ (inner_came s.inner (k.phases.scans f.stage) f.tail (omega arith)) (λ z b.
        finish f u z (h.ruled u.rows u.contract a.count a.dumped) a b))

  module _ (wide : (s : Keeping G S T) → Good m w.standing s → AllByRecursion (Wide (m.width s)) (w.rest s)) where
    module _ (s : Keeping G S T) (few : m.operators s ≤ 16) (bytes : List ℕ) where
      read_some : (f : Fields G) → parsed k.phases (block_size s.terms) (o.width s.outer.child) (i.width s.inner) bytes ≡ Some f → (v : Option (Keeping G S T)) → Of (Whole s f) v → Read m w s bytes v (then v (λ t. Some (w.rest t)))
      read_some f h None q = tt
      read_some f h (Some t) q =
          let a = by_plan s t q.same.plan in
          let g : Good m w.standing t = record { stands = q.stands; few = omega (arith, a.operators) } in
          record {
            stands = q.stands;
            same = q.same;
            rest = refl;
            refetch = q.refetch ∙ sym (ap (refetch_of k.phases (o.refetch s.outer.child) (i.refetch s.inner)) h);
            wide = subst (λ (j : ℕ). AllByRecursion (Wide j) (w.rest t)) a.width (wide t g);
          }

      reads_by : (v : Option (Fields G)) → parsed k.phases (block_size s.terms) (o.width s.outer.child) (i.width s.inner) bytes ≡ v → Of (Valid k n p (block_size s.terms) (o.width s.outer.child) (i.width s.inner) (length bytes)) v
          → Read m w s bytes (then v (resumed k.phases o d.togo s.terms (o.restored s.outer.child) (i.restored s.inner) (i.begin s.inner))) (then (then v (resumed k.phases o d.togo s.terms (o.restored s.outer.child) (i.restored s.inner) (i.begin s.inner))) (λ t. Some (w.rest t)))
      reads_by None h q = tt
      reads_by (Some f) h q = read_some f h _ (resumed_ok s few (length bytes) f q)

    reads : (s : Keeping G S T) (bytes : List ℕ) → m.operators s ≤ 16 → Read m w s bytes (m.restored s bytes) (w.reading s bytes)
    reads s bytes few = reads_by s few bytes (parsed k.phases (block_size s.terms) (o.width s.outer.child) (i.width s.inner) bytes) refl (parsed_ok k n p (block_size s.terms) (o.width s.outer.child) (i.width s.inner) bytes (lo.sized s.outer.child).1 (li.sized s.inner).1)

  -- at most 16 rows to fetch again for each byte
  kept_few : (x : S) (t : Kept) → kept_count t ≤ 16 → refetch_kept (o.refetch x) t ≤ 16 * length (kept_record t) + 16
  kept_few x (dumped rows outer) h = omega (arith, lo.few x outer)
  kept_few x (owed count contract) h = omega (arith, lo.few x contract)

  tail_few : (y : T) (b : Bool) (tail : List ℕ) → refetch_tail b (i.refetch y) tail ≤ 16 * length tail
  tail_few y true tail = li.few y tail
  tail_few y false tail = omega arith

  few_of : (s : Keeping G S T) (bytes : ℕ) (v : Option (Fields G)) → Of (Valid k n p (block_size s.terms) (o.width s.outer.child) (i.width s.inner) bytes) v → refetch_of k.phases (o.refetch s.outer.child) (i.refetch s.inner) v ≤ 16 * bytes
  few_of s bytes None h = omega arith
  few_of s bytes (Some f) h = omega (arith, kept_few s.outer.child f.kept (omega (arith, h.count, size_few s.terms)), tail_few s.inner (k.phases.scans f.stage) f.tail, h.room)

  few : (s : Keeping G S T) (bytes : List ℕ) → m.refetch s bytes ≤ 16 * length bytes
  few s bytes = few_of s (length bytes) (parsed k.phases (block_size s.terms) (o.width s.outer.child) (i.width s.inner) bytes) (parsed_ok k n p (block_size s.terms) (o.width s.outer.child) (i.width s.inner) bytes (lo.sized s.outer.child).1 (li.sized s.inner).1)

  pub laws : ((s : Keeping G S T) → Good m w.standing s → Meant m w s (next s)) → ((s : Keeping G S T) → Good m w.standing s → AllByRecursion (Wide (m.width s)) (w.rest s)) → Laws m w
  laws moves wide = record {
    by_plan = by_plan;
    alike = alike;
    shape = shape;
    planned = λ s. planned_over k.number (terms_bytes s.terms) _ _ _ _ _ _ p.some p.listed (sym p.parameters) p.children p.keeps (lo.planned s.outer.child) (li.planned s.inner);
    sized = λ s. p.sized _ _ (lo.sized s.outer.child).0 (lo.sized s.outer.child).1 (li.sized s.inner).0 (li.sized s.inner).1;
    wide = wide;
    moves = moves;
    begins = begins;
    readback = readback;
    reads = reads wide;
    framed = one_frame;
    adds = adds;
    small = small;
    few = few;
  }

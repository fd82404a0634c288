-- What the code of an operator over a block does is what its machine does. Assumes nothing.
use Rattle.std.proofs.Common.{◌≡◌, ℕ, ◌<◌, ◌≤◌, min, Bool, List, length, get_or, Some, None, Ok, Err, Option, Result, sym, refl, ap, ◌∙◌, subst, arith}
use Rattle.refusal.specs.declared.Refusal.{Refusal}
use Rattle.refusal.specs.Numbers.{number}
use Rattle.codec.specs.Frames.{body, then}
use Rattle.codec.proofs.Frames.{body_bound}
use Rattle.operator.specs.Machine.{Machine, Move, Good}
use Rattle.operator.specs.Calls.{Loaded}
use Rattle.operator.specs.Laws.{Meaning, Laws}
use Rattle.plan.proofs.Told.{plan_keepers}
use Rattle.pairing.specs.Terms.{block_size}
use Rattle.block.specs.declared.part.Stored.{Stored}
use Rattle.block.specs.declared.part.Stored.TheVariants as stored
use Rattle.block.specs.Choices.{choices_of_outer, choices_of_inner}
use Rattle.block.specs.Kept.{kept_count, kept_record, kept_of, Enough, Of}
use Rattle.block.proofs.Options.{then_so, then_none}
use Rattle.block.proofs.Places.{length_rows_of}
use Rattle.block.proofs.Records.{Sound}
use Rattle.keeper.specs.Taking.{Taken, rebuilt}
use Rattle.keeper.specs.Keeping.{Keeping, keeping, Kind, Sense, Fields, inner_at, resumed, parsed, keeper_machine, Standing}
use Rattle.keeper.specs.Proper.{Proper}
use Rattle.keeper.specs.Outer.{Fine, part_bytes, Loadable, Restores}
use Rattle.keeper.proofs.Loads.{loaded_ok, loaded_err}
use Rattle.keeper.proofs.Records.{Valid, parsed_ok}
use Rattle.keeper.proofs.Laws.{size_few, good_outer, good_inner}

-- what is restored, and what is not
pub restores_some : {A : Type 0} (v : Option A) (u : Unit {0}) (t : A) → Restores v (Ok u) t → v ≡ Some t
restores_some None u t h = absurd h
restores_some {A = A} (Some a) u t h = ap (λ (z : A). Some z) (sym h)

pub restores_none : {A : Type 0} (v : Option A) (r : Refusal) (t : A) → Restores v (Err r) t → (v ≡ None) × (number r ≡ 10)
restores_none None r t h = (refl, h)
restores_none (Some a) r t h = absurd h

pub some_restored : {A : Type 0} (v : Option A) (t : A) → v ≡ Some t → Restores v (Ok tt) t
some_restored {A = A} v t e = subst (λ (z : Option A). Restores z (Ok tt) t) (sym e) refl

pub none_restored : {A : Type 0} (v : Option A) (r : Refusal) (t : A) → v ≡ None → number r ≡ 10 → Restores v (Err r) t
none_restored {A = A} v r t e n = subst (λ (z : Option A). Restores z (Err r) t) (sym e) n

-- a block's part for the same choices
pub same_part : {S : Type 0} (m : Machine S) (t : Taken S) (b b' : Bool) (cs cs' : List ℕ) → b ≡ b' → cs ≡ cs' → part_bytes m b cs t ≡ part_bytes m b' cs' t
same_part m t b b' cs cs' p q = cc

-- a part of a record that keeps the rules can be loaded
pub loadable : (v : ℕ) (s : Stored) → kept_count (kept_of v s) ≤ 16 → Sound v (kept_of v s) → Enough v s → Loadable v s
loadable v (stored.Dumped count rows outer) few so en = (omega (arith, length_rows_of v count rows.now), en)
loadable v (stored.Owed count contract) few so en = (few, so.1)

module _ {G S T : Type 0} (k : Kind G) (n : Sense G) (p : Proper k n) (o : Machine S) (d : Meaning S) (lo : Laws o d) (i : Machine T) (e : Meaning T) (li : Laws i e) (next : Keeping G S T → Move (Keeping G S T)) where
  abbrev m : Machine (Keeping G S T)
  m = keeper_machine k o d.togo i next

  module _ (s : Keeping G S T) (bytes : List ℕ) where
    abbrev PartsAre : Option (Fields G) → Type 0
    PartsAre f = parsed k.phases (block_size s.terms) (o.width s.outer.child) (i.width s.inner) bytes ≡ f

    pub valid : (f : Fields G) → PartsAre (Some f) → Valid k n p (block_size s.terms) (o.width s.outer.child) (i.width s.inner) (length bytes) f
    valid f h = subst (Of (Valid k n p (block_size s.terms) (o.width s.outer.child) (i.width s.inner) (length bytes))) h (parsed_ok k n p (block_size s.terms) (o.width s.outer.child) (i.width s.inner) bytes (lo.sized s.outer.child).1 (li.sized s.inner).1)

    pub few_count : (f : Fields G) → PartsAre (Some f) → kept_count f.kept ≤ 16
    few_count f h = omega (arith, (valid f h).count, size_few s.terms)

    restored_as : (f : Fields G) → PartsAre (Some f) → m.restored s bytes ≡ resumed k.phases o d.togo s.terms (o.restored s.outer.child) (i.restored s.inner) (i.begin s.inner) f
    restored_as f h = then_so _ _ f h

    pub no_parts : (t : Keeping G S T) (r : Refusal) → PartsAre None → number r ≡ 10 → Restores (m.restored s bytes) (Err r) t
    no_parts t r h q = none_restored (m.restored s bytes) r t (then_none _ _ h) q

    pub no_block : (f : Fields G) (u : Taken S) (t : Keeping G S T) (r : Refusal) → PartsAre (Some f) → Restores (rebuilt o d.togo (o.restored s.outer.child) f.kept) (Err r) u → Restores (m.restored s bytes) (Err r) t
    no_block f u t r h q = let z = restores_none (rebuilt o d.togo (o.restored s.outer.child) f.kept) r u q in none_restored (m.restored s bytes) r t (restored_as f h ∙ then_none _ _ z.0) z.1

    module _ (f : Fields G) (u : Taken S) (v : Unit {0}) (h : PartsAre (Some f)) (q : Restores (rebuilt o d.togo (o.restored s.outer.child) f.kept) (Ok v) u) where
      with_block : m.restored s bytes ≡ then (inner_at (k.phases.scans f.stage) (i.restored s.inner) (i.begin s.inner) f.tail) (λ y. Some (keeping s.terms f.stage u y))
      with_block = restored_as f h ∙ then_so _ _ u (restores_some (rebuilt o d.togo (o.restored s.outer.child) f.kept) v u q)

      pub both : (y : T) (r : Result (Unit {0}) Refusal) (scans : Bool) → scans ≡ k.phases.scans f.stage → Loaded (i.begin s.inner) (inner_at scans (i.restored s.inner) (i.begin s.inner) f.tail) r y → Restores (m.restored s bytes) r (keeping s.terms f.stage u y)
      both y (Ok w) scans g l =
          some_restored (m.restored s bytes) (keeping s.terms f.stage u y)
          (with_block ∙ then_so _ _ y (ap (λ (b : Bool). inner_at b (i.restored s.inner) (i.begin s.inner) f.tail) (sym g) ∙ loaded_ok (i.begin s.inner) y (inner_at scans (i.restored s.inner) (i.begin s.inner) f.tail) w l))
      both y (Err r) scans g l =
          let z = loaded_err (i.begin s.inner) y (inner_at scans (i.restored s.inner) (i.begin s.inner) f.tail) r l in
          none_restored (m.restored s bytes) r _ (with_block ∙ then_none _ _ (ap (λ (b : Bool). inner_at b (i.restored s.inner) (i.begin s.inner) f.tail) (sym g) ∙ z.0)) z.1

  -- a record as the code takes it apart, at the numbers that the code has
  pub record Apart (s : Keeping G S T) (bytes : List ℕ) (g : G) (q : Stored) (tail : List ℕ) : Type 0 where
    pub is : PartsAre s bytes (Some (record { stage = g; kept = kept_of (o.width s.outer.child) q; tail = tail }))
    pub loadable : Loadable (o.width s.outer.child) q
    pub count : kept_count (kept_of (o.width s.outer.child) q) ≤ 16
    pub room : length (kept_record (kept_of (o.width s.outer.child) q)) ≤ length bytes

  pub apart : (s : Keeping G S T) (bytes : List ℕ) (size v u : ℕ) (g : G) (q : Stored) (tail : List ℕ) → size ≡ block_size s.terms → v ≡ o.width s.outer.child → u ≡ i.width s.inner
      → parsed k.phases size (min 8 v) (min 8 u) bytes ≡ Some (record { stage = g; kept = kept_of (min 8 v) q; tail = tail }) → Enough (min 8 v) q → Apart s bytes g q tail
  apart s bytes size v u g q tail a b c h en =
      let vv : min 8 v ≡ o.width s.outer.child = omega (arith, (lo.sized s.outer.child).1) in
      let uu : min 8 u ≡ i.width s.inner = omega (arith, (li.sized s.inner).1) in
      let f : Fields G = record { stage = g; kept = kept_of (o.width s.outer.child) q; tail = tail } in
      let is : PartsAre s bytes (Some f) =
      ap (λ (z : ℕ). parsed k.phases z (o.width s.outer.child) (i.width s.inner) bytes) (sym a) ∙ ap (λ (z : ℕ). parsed k.phases size z (i.width s.inner) bytes) (sym vv) ∙ ap (λ (z : ℕ). parsed k.phases size (min 8 v) z bytes) (sym uu)
      ∙ h ∙ ap (λ (z : ℕ). Some (record { stage = g; kept = kept_of z q; tail = tail })) vv in
      let ok = valid s bytes f is in
      record {
        is = is;
        loadable = loadable (o.width s.outer.child) q (few_count s bytes f is) ok.sound (subst (λ (z : ℕ). Enough z q) vv en);
        count = few_count s bytes f is;
        room = omega (arith, ok.room);
      }

  -- the parts of a choice list as the code cuts it, in good standing
  pub record Chosen (s : Keeping G S T) (choices ocs ics : List ℕ) : Type 0 where
    pub outer : Good o d.standing s.outer.child
    pub inner : Good i e.standing s.inner
    pub fine : Fine o d s.outer
    pub outers : ocs ≡ choices_of_outer (o.keepers s.outer.child) choices
    pub inners : ics ≡ choices_of_inner (o.keepers s.outer.child) choices

  pub chosen : (s : Keeping G S T) (choices outers inners : List ℕ) (keepers : ℕ) → Good m (Standing k n o d i e) s → keepers ≡ min 17 (o.keepers s.outer.child) → outers ≡ choices_of_outer keepers choices → inners ≡ choices_of_inner keepers choices → Chosen s choices outers inners
  chosen s choices outers inners keepers g a b c =
      let go = good_outer k n p o d lo i e li next s g in
      let kk : keepers ≡ o.keepers s.outer.child = omega (arith, plan_keepers _ _ _ (lo.planned s.outer.child), go.few) in
      record {
        outer = go;
        inner = good_inner k n p o d lo i e li next s g;
        fine = record { stands = g.stands.outer; few = go.few };
        outers = b ∙ ap (λ (j : ℕ). choices_of_outer j choices) kk;
        inners = c ∙ ap (λ (j : ℕ). choices_of_inner j choices) kk;
      }

  -- bytes that parse are one record of at most 65,537 bytes
  long_by : (bytes : List ℕ) (b : Option (List ℕ)) (F : List ℕ → Option (Fields G)) (f : Fields G) → get_or bytes 0 0 < 256 → get_or bytes 1 0 < 256 → body bytes ≡ b → then b F ≡ Some f → length bytes ≤ 65537
  long_by bytes None F f p q e h = absurd (let z : ◌≡◌ {A = ℕ} 0 1 = cc in omega arith)
  long_by bytes (Some b) F f p q e h = body_bound bytes b p q e

  pub record_bound : (s : Keeping G S T) (bytes : List ℕ) (f : Fields G) → get_or bytes 0 0 < 256 → get_or bytes 1 0 < 256 → PartsAre s bytes (Some f) → length bytes ≤ 65537
  unfolding parsed
  record_bound s bytes f p q h = long_by bytes (body bytes) _ f p q refl h

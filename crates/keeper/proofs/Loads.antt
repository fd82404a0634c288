-- A child loaded from a record, and a block restored by it. Assumes nothing.
use Rattle.std.proofs.Common.{◌≡◌, ℕ, ◌≤◌, Bool, true, false, List, [], length, Some, None, Ok, Err, Option, Result, sym, refl, ap, ◌∙◌, subst}
use Rattle.refusal.specs.declared.Refusal.{Refusal}
use Rattle.refusal.specs.Numbers.{number}
use Rattle.codec.specs.declared.row.Row.{Row}
use Rattle.operator.specs.Machine.{Machine, Good}
use Rattle.operator.specs.Calls.{Loaded}
use Rattle.operator.specs.Laws.{Meaning, Laws, Same, Read}
use Rattle.operator.proofs.Steps.{carried}
use Rattle.block.specs.Kept.{Kept, dumped, owed, kept_record, Of}
use Rattle.block.specs.Held.{signed}
use Rattle.block.proofs.Options.{when_so, then_so, then_none}
use Rattle.std.proofs.lemmas.Bool.{le-leb}
use Rattle.keeper.specs.Taking.{Taken, taken, back_record, fetch, rebuilt}
use Rattle.keeper.specs.Keeping.{inner_at}
use Rattle.keeper.specs.Outer.{Restores}

-- what was loaded
pub loaded_ok : {S : Type 0} (b t : S) (v : Option S) (u : Unit {0}) → Loaded b v (Ok u) t → v ≡ Some t
loaded_ok b t None u h = absurd h
loaded_ok {S = S} b t (Some s) u h = ap (λ (z : S). Some z) (sym h)

pub loaded_err : {S : Type 0} (b t : S) (v : Option S) (e : Refusal) → Loaded b v (Err e) t → (v ≡ None) × (number e ≡ 10) × (t ≡ b)
loaded_err b t None e (p, q) = (refl, p, q)
loaded_err b t (Some s) e h = absurd h

pub signed_so : (bytes : List ℕ) → length bytes ≤ 512 → signed bytes ≡ Some bytes
signed_so bytes h = when_so _ _ (le-leb _ _ h)

module _ {S : Type 0} (m : Machine S) (d : Meaning S) (l : Laws m d) where
  -- a child that a record stands for
  pub record Came (x : S) (bytes : List ℕ) (t : S) : Type 0 where
    pub stands : d.standing t
    pub same : Same m x t
    pub refetch : m.refetch t (back_record m t) ≡ m.refetch x bytes
    pub reads : d.reading x bytes ≡ Some (d.rest t)

  came_by : (x : S) (bytes : List ℕ) (v : Option S) (w : Option (List Row)) → d.reading x bytes ≡ w → Read m d x bytes v w → Of (Came x bytes) v
  came_by x bytes None w e h = tt
  came_by x bytes (Some t) None e h = absurd h
  came_by x bytes (Some t) (Some rows) e h = record { stands = h.stands; same = h.same; refetch = h.refetch; reads = e ∙ ap (λ (z : List Row). Some z) (sym h.rest) }

  pub came : (x : S) (bytes : List ℕ) → m.operators x ≤ 16 → Of (Came x bytes) (m.restored x bytes)
  came x bytes few = came_by x bytes (m.restored x bytes) (d.reading x bytes) refl (l.reads x bytes few)

  pub came_as : (x : S) (bytes : List ℕ) (t : S) → m.operators x ≤ 16 → m.restored x bytes ≡ Some t → Came x bytes t
  came_as x bytes t few e = subst (Of (Came x bytes)) e (came x bytes few)

  -- loaded or refused, it has the same beginning
  pub begin_loaded : (x : S) (bytes : List ℕ) (t : S) (r : Result (Unit {0}) Refusal) → m.operators x ≤ 16 → Loaded (m.begin x) (m.restored x bytes) r t → m.begin t ≡ m.begin x
  begin_loaded x bytes t (Ok u) few h = (l.alike x t (came_as x bytes t few (loaded_ok (m.begin x) t (m.restored x bytes) u h)).same).begin
  begin_loaded x bytes t (Err e) few h = ap m.begin (loaded_err (m.begin x) t (m.restored x bytes) e h).2 ∙ (l.alike x (m.begin x) (l.begins x).same).begin

  pub good_loaded : (x : S) (bytes : List ℕ) (t : S) → m.operators x ≤ 16 → m.restored x bytes ≡ Some t → Good m d.standing t
  good_loaded x bytes t few e = let k = came_as x bytes t few e in carried m d l x t few k.same k.stands

module _ {S : Type 0} (m : Machine S) (steps : S → ℕ) (ro : List ℕ → Option S) where
  no_block : (k : Kept) → ro (kept_record k) ≡ None → rebuilt m steps ro k ≡ None
  no_block (dumped rows outer) e = then_none _ _ e
  no_block (owed n contract) e = then_none _ _ e

  -- a child that is refused: the block is refused with it
  pub refused_as : (k : Kept) (bytes : List ℕ) (b t : S) (e f : Refusal) (r : Result (Unit {0}) Refusal) (u : Taken S) → kept_record k ≡ bytes → Loaded b (ro bytes) (Err e) t → r ≡ Err f → f ≡ e → Restores (rebuilt m steps ro k) r u
  refused_as k bytes b t e f r u p h q n =
      let w = loaded_err b t (ro bytes) e h in
      let z : rebuilt m steps ro k ≡ None = no_block k (ap ro p ∙ w.0) in
      rw (q, n, z) w.1

  pub dumped_as : (k : Kept) (rows : List Row) (bytes : List ℕ) (x : S) (u : Taken S) → k ≡ dumped rows bytes → ro bytes ≡ Some x → u ≡ taken rows None x → Restores (rebuilt m steps ro k) (Ok tt) u
  dumped_as k rows bytes x u p q e = subst (λ (v : Option (Taken S)). Restores v (Ok tt) u) (sym (ap (rebuilt m steps ro) p ∙ then_so _ _ x q)) e

  pub owed_as : (k : Kept) (n : ℕ) (bytes : List ℕ) (x : S) (r : Result (Unit {0}) Refusal) (u : Taken S) → k ≡ owed n bytes → ro bytes ≡ Some x → Restores (fetch m.next (steps x) n (taken [] (Some bytes) x)) r u → Restores (rebuilt m steps ro k) r u
  owed_as k n bytes x r u p q h = subst (λ (v : Option (Taken S)). Restores v r u) (sym (ap (rebuilt m steps ro) p ∙ then_so _ _ x q)) h

-- a child loaded where its record is written, else rewound
pub loaded_there : {T : Type 0} (b : Bool) (restored : List ℕ → Option T) (begin : T) (bytes : List ℕ) (r : Result (Unit {0}) Refusal) (t : T) → b ≡ true → Loaded begin (restored bytes) r t → Loaded begin (inner_at b restored begin bytes) r t
loaded_there {T = T} b restored begin bytes r t e h = subst (λ (z : Bool). Loaded begin (inner_at z restored begin bytes) r t) (sym e) h

pub loaded_none : {T : Type 0} (b : Bool) (restored : List ℕ → Option T) (begin : T) (bytes : List ℕ) (t : T) → b ≡ false → t ≡ begin → Loaded begin (inner_at b restored begin bytes) (Ok tt) t
loaded_none b restored begin bytes t e h = subst (λ (z : Bool). Loaded begin (inner_at z restored begin bytes) (Ok tt) t) (sym e) h

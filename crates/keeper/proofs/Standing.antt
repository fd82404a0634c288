-- Good standing of a block as it is signed for, filled and dropped. Assumes nothing.
use Rattle.std.proofs.Common.{◌≡◌, ℕ, ◌+◌, Bool, true, false, cond, leb, List, [], ◌∷◌, ◌++◌, length, replicate, Some, None, Option, sym, refl, ap, ◌∙◌, subst, append_assoc}
use Rattle.std.specs.List.{AllByRecursion}
use Rattle.std.proofs.ByRecursion.{All-push}
use Rattle.std.proofs.lemmas.Bool.{leb-true}
use Rattle.codec.specs.declared.row.Row.{Row}
use Rattle.codec.specs.Bytes.{of2}
use Rattle.codec.specs.Rows.{Wide}
use Rattle.operator.specs.Machine.{Machine, Good}
use Rattle.operator.specs.Laws.{Meaning, Laws, Same}
use Rattle.keeper.specs.Taking.{Taken, untaken, over, with_row, back_record, signing, Holds, Stands}

-- what a contract reads as, said in other words
pub holds_by : (f g : List ℕ → Option (List Row)) (xs ys : List Row) (c : Option (List ℕ)) → g ≡ f → ys ≡ xs → Holds f xs c → Holds g ys c
holds_by f g xs ys None e h k = tt
holds_by f g xs ys (Some bytes) e h k = record { one = k.one; short = k.short; reads = ap (λ (q : List ℕ → Option (List Row)). q bytes) e ∙ k.reads ∙ ap (λ (l : List Row). Some l) (sym h) }

sign : (f : List ℕ → Option (List Row)) (rows : List Row) (bytes : List ℕ) → length bytes ≡ 2 + of2 bytes → f bytes ≡ Some rows → (short : Bool) → leb (length bytes) 512 ≡ short → Holds f rows (cond short (Some bytes) None)
sign f rows bytes h k true e = record { one = h; short = leb-true (length bytes) 512 e; reads = k }
sign f rows bytes h k false e = tt

module _ {S : Type 0} (m : Machine S) (d : Meaning S) (l : Laws m d) where
  -- a contract signed before the first row reads as all rows to come
  pub signs : (x : S) → Good m d.standing x → Stands m d (signing m x)
  signs x g =
      let all = replicate (m.keepers x) 2 in
      record { child = g.stands; holds = sign (d.reading x) (d.rest x) (back_record m x) (l.framed x all g) (l.readback x all g) (leb (length (back_record m x)) 512) refl; wide = tt }

  -- a row joins the block
  pub takes : (t : Taken S) (b : Row) (x : S) → Stands m d t → AllByRecursion (Wide (m.width t.child)) (d.rest t.child) → d.standing x → Same m t.child x → d.rest t.child ≡ b ∷ d.rest x → Stands m d (with_row t b x)
  takes t b x st w sx sa e =
      let v = (l.by_plan t.child x sa.plan).width in
      record {
        child = sx;
        holds = holds_by _ _ _ _ t.contract (l.alike t.child x sa).reading (append_assoc t.rows (b ∷ []) (d.rest x) ∙ ap (λ (z : List Row). t.rows ++ z) (sym e)) st.holds;
        wide = subst (λ (n : ℕ). AllByRecursion (Wide n) (t.rows ++ (b ∷ []))) (sym v) (All-push (Wide (m.width t.child)) t.rows b st.wide (subst (AllByRecursion (Wide (m.width t.child))) e w).0);
      }

  -- the child was busy
  pub waits : (t : Taken S) (x : S) → Stands m d t → d.standing x → Same m t.child x → d.rest x ≡ d.rest t.child → Stands m d (over t x)
  waits t x st sx sa e = record {
    child = sx;
    holds = holds_by _ _ _ _ t.contract (l.alike t.child x sa).reading (ap (λ (z : List Row). t.rows ++ z) e) st.holds;
    wide = subst (λ (n : ℕ). AllByRecursion (Wide n) t.rows) (sym (l.by_plan t.child x sa.plan).width) st.wide;
  }

  -- block and contract are dropped
  pub drops : (x : S) → d.standing x → Stands m d (untaken x)
  drops x st = record { child = st; holds = tt; wide = tt }

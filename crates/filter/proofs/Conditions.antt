-- The test of a condition decides it. Assumes nothing.
use Rattle.std.proofs.Common.{◌≡◌, ℕ, ◌<◌, ◌≤◌, leb, Some, None, ◌∙◌, Bool, true, false, ◌&&◌, ◌||◌, eqb, ℤ, Decides, refl}
use lib.Signed.{lt_z}
use Rattle.std.proofs.lemmas.Bool.Decides.{Decides-and, Decides-or, Decides-eqb, Decides-at}
use Rattle.std.proofs.lemmas.Bool.{cond-true, cond-false, le-leb, lt-leb}
use Rattle.refusal.specs.Numbers.{fault_at}
use Rattle.codec.specs.Cells.{eq_z}
use Rattle.codec.proofs.Cells.{decides_eq_z, decides_lt_z}
use Rattle.filter.specs.Condition.{equals, below, above, Passes, holds, known, own_flaw}

pub decides_holds : (c : ℕ) (x k : ℤ) → Decides (holds c x k) (Passes c x k)
unfolding holds
decides_holds c x k =
    Decides-or (eqb c equals && eq_z x k) _ (Decides-and (eqb c equals) (eq_z x k) (Decides-eqb c equals) (decides_eq_z x k))
    (Decides-or (eqb c below && lt_z x k) _ (Decides-and (eqb c below) (lt_z x k) (Decides-eqb c below) (decides_lt_z x k))
    (Decides-and (eqb c above) (lt_z k x) (Decides-eqb c above) (decides_lt_z k x)))

-- what is computed is also decided
pub also : (r : Bool) (c : ℕ) (x k : ℤ) → r ≡ holds c x k → (r ≡ holds c x k) × Decides r (Passes c x k)
also r c x k e = (e, Decides-at r (holds c x k) e (decides_holds c x k))

or_false : (b : Bool) → (b || false) ≡ b
or_false true = refl
or_false false = refl

pub holds_equals : (x k : ℤ) → holds equals x k ≡ eq_z x k
unfolding holds
holds_equals x k = or_false (eq_z x k)

pub holds_below : (x k : ℤ) → holds below x k ≡ lt_z x k
unfolding holds
holds_below x k = or_false (lt_z x k)

pub holds_above : (x k : ℤ) → holds above x k ≡ lt_z k x
unfolding holds
holds_above x k = refl

-- the faults of a criterion
pub misfit : (w cell condition k : ℕ) → w ≤ cell → own_flaw w cell condition k ≡ Some (fault_at 1 k)
unfolding own_flaw
misfit w cell condition k h = cond-true (leb w cell) _ _ (le-leb w cell h)

pub odd : (w cell condition k : ℕ) → cell < w → known condition ≡ false → own_flaw w cell condition k ≡ Some (fault_at 3 k)
unfolding own_flaw
odd w cell condition k h e = cond-false (leb w cell) _ _ (lt-leb w cell h) ∙ cond-false (known condition) _ _ e

pub flawless : (w cell condition k : ℕ) → cell < w → known condition ≡ true → own_flaw w cell condition k ≡ None
unfolding own_flaw
flawless w cell condition k h e = cond-false (leb w cell) _ _ (lt-leb w cell h) ∙ cond-true (known condition) _ _ e

-- The test of a condition decides it, and two differences are within a band as their absolute value is. Assumes nothing.
use Rattle.std.proofs.Common.{◌≡◌, ℕ, Bool, true, false, ◌&&◌, T, eqb, ℤ, pos, ◌-ℤ◌, ◌≤ℤ◌, Decides, refl, arith}
use lib.Signed.{lt_z, le_z}
use Rattle.std.specs.Int.RustNames.{unsigned_abs}
use Rattle.std.proofs.lemmas.Int.{ints}
use Rattle.std.proofs.lemmas.Bool.Decides.{Decides-and, Decides-or, Decides-eqb, Decides-at}
use Rattle.codec.specs.Cells.{eq_z}
use Rattle.codec.proofs.Cells.{decides_eq_z, decides_lt_z}
use Rattle.pairing.specs.Condition.{equals, below, near, Within, Joins, within, joins}

told : (b : Bool) → T b → b ≡ true
told true t = refl
told false t = absurd t

tells_t : (b : Bool) → b ≡ true → T b
tells_t true e = tt
tells_t false e = absurd (let z : ◌≡◌ {A = ℕ} 0 1 = cc in omega arith)

decides_le_z : (a b : ℤ) → Decides (le_z a b) (a ≤ℤ b)
decides_le_z a b = ((λ e. record { le = tells_t (le_z a b) e }), λ h. told (le_z a b) h.le)

decides_within : (w x y : ℤ) → Decides (within w x y) (Within w x y)
decides_within w x y = Decides-and (le_z (x -ℤ y) w) (le_z (y -ℤ x) w) (decides_le_z (x -ℤ y) w) (decides_le_z (y -ℤ x) w)

pub decides_joins : (c : ℕ) (w x y : ℤ) → Decides (joins c w x y) (Joins c w x y)
unfolding joins
decides_joins c w x y =
    Decides-or (eqb c equals && eq_z x y) _ (Decides-and (eqb c equals) (eq_z x y) (Decides-eqb c equals) (decides_eq_z x y))
    (Decides-or (eqb c below && lt_z x y) _ (Decides-and (eqb c below) (lt_z x y) (Decides-eqb c below) (decides_lt_z x y))
    (Decides-and (eqb c near) (within w x y) (Decides-eqb c near) (decides_within w x y)))

-- what is computed is also decided
pub also : (r : Bool) (c : ℕ) (w x y : ℤ) → r ≡ joins c w x y → (r ≡ joins c w x y) × Decides r (Joins c w x y)
also r c w x y e = (e, Decides-at r (joins c w x y) e (decides_joins c w x y))

-- a difference as the code computes it
pub same_within : (w x y : ℤ) → le_z (pos (unsigned_abs (x -ℤ y))) w ≡ within w x y
same_within w x y = grind (arith, ints)

-- Cells compared, as code compares them and as numbers. Assumes nothing.
use Rattle.std.proofs.Common.{◌≡◌, ℕ, Bool, true, false, T, eqb, ℤ, pos, negsuc, ◌<ℤ◌, Decides, refl, ap, arith, w32, SFits, of_z}
use lib.Signed.{lt_z}
use Rattle.std.proofs.lemmas.Bool.{ne_eqb, eqb-true, eq-eqb}
use Rattle.std.proofs.lemmas.Bool.Decides.{nat_tests}
use Rattle.codec.specs.Cells.{eq_z}

pub eqb_of_z : (a b : ℤ) → SFits w32 a → SFits w32 b → eqb (of_z w32 a) (of_z w32 b) ≡ eq_z a b
eqb_of_z (pos a) (pos b) f g = refl
eqb_of_z (pos a) (negsuc b) f g = ne_eqb _ _ (λ e. omega arith)
eqb_of_z (negsuc a) (pos b) f g = ne_eqb _ _ (λ e. omega arith)
eqb_of_z (negsuc a) (negsuc b) f g = grind (arith, nat_tests)

pub decides_eq_z : (a b : ℤ) → Decides (eq_z a b) (a ≡ b)
decides_eq_z (pos a) (pos b) = ((λ e. ap pos (eqb-true a b e)), λ e. eq-eqb a b (let q : a ≡ b = cc in q))
decides_eq_z (pos a) (negsuc b) = ((λ e. absurd (let z : ◌≡◌ {A = ℕ} 0 1 = cc in omega arith)), λ e. absurd (let z : ◌≡◌ {A = ℕ} 0 1 = cc in omega arith))
decides_eq_z (negsuc a) (pos b) = ((λ e. absurd (let z : ◌≡◌ {A = ℕ} 0 1 = cc in omega arith)), λ e. absurd (let z : ◌≡◌ {A = ℕ} 0 1 = cc in omega arith))
decides_eq_z (negsuc a) (negsuc b) = ((λ e. ap negsuc (eqb-true a b e)), λ e. eq-eqb a b (let q : a ≡ b = cc in q))

told : (b : Bool) → T b → b ≡ true
told true t = refl
told false t = absurd t

tells_t : (b : Bool) → b ≡ true → T b
tells_t true e = tt
tells_t false e = absurd (let z : ◌≡◌ {A = ℕ} 0 1 = cc in omega arith)

pub decides_lt_z : (a b : ℤ) → Decides (lt_z a b) (a <ℤ b)
decides_lt_z a b = ((λ e. record { lt = tells_t (lt_z a b) e }), λ h. told (lt_z a b) h.lt)

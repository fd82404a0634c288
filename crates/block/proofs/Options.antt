-- What an optional value holds. Assumes nothing.
use Rattle.std.proofs.Common.{◌≡◌, Bool, true, false, cond, Some, None, Option, refl, ap}
use Rattle.std.proofs.lemmas.Bool.{cond-true, cond-false}
use Rattle.codec.specs.Frames.{then}
use Rattle.block.specs.Kept.{when, Of}

pub of_when : {A : Type 0} (P : A → Type 0) (b : Bool) (x : Option A) → (b ≡ true → Of P x) → Of P (when b x)
of_when P true x f = f refl
of_when P false x f = tt

pub of_cond : {A : Type 0} (P : A → Type 0) (b : Bool) (x y : Option A) → (b ≡ true → Of P x) → (b ≡ false → Of P y) → Of P (cond b x y)
of_cond P true x y f g = f refl
of_cond P false x y f g = g refl

pub of_then : {A B : Type 0} (Q : A → Type 0) (P : B → Type 0) (x : Option A) (f : A → Option B) → Of Q x → ((a : A) → Q a → Of P (f a)) → Of P (then x f)
of_then Q P None f h g = tt
of_then Q P (Some a) f h g = g a h

-- an optional value that is known
pub when_so : {A : Type 0} (b : Bool) (x : Option A) → b ≡ true → when b x ≡ x
when_so b x e = cond-true b x None e

pub when_not : {A : Type 0} (b : Bool) (x : Option A) → b ≡ false → when b x ≡ None
when_not b x e = cond-false b x None e

pub then_so : {A B : Type 0} (x : Option A) (f : A → Option B) (a : A) → x ≡ Some a → then x f ≡ f a
then_so {A = A} x f a e = ap (λ (y : Option A). then y f) e

pub then_none : {A B : Type 0} (x : Option A) (f : A → Option B) → x ≡ None → then x f ≡ None
then_none {A = A} x f e = ap (λ (y : Option A). then y f) e

-- What a test keeps of a list. Assumes nothing.
use Rattle.std.proofs.Common.{◌≡◌, Bool, true, false, cond, List, [], ◌∷◌, Decides, filter, refl}
use Rattle.std.proofs.lemmas.Bool.Decides.{not_from_Decides}
use Rattle.codec.specs.Picks.{Picked, none, taken, left}

-- what a test that decides a property keeps is what has it
pub picked : {A : Type 0} (P : A → Type 0) (p : A → Bool) → ((x : A) → Decides (p x) (P x)) → (xs : List A) → Picked P xs (filter p xs)
picked P p d [] = none
picked {A = A} P p d (x ∷ xs) = by (p x) refl (picked P p d xs)
  where
    by : (b : Bool) → p x ≡ b → Picked P xs (filter p xs) → Picked P (x ∷ xs) (cond b (x ∷ filter p xs) (filter p xs))
    by true e h = taken ((d x).0 e) h
    by false e h = left (not_from_Decides (p x) (d x) e) h

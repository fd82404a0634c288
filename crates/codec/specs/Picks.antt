-- Some elements of a list, in order. Assumes nothing.
use Rattle.std.specs.Prelude.{List, [], ◌∷◌}

-- the second list has the elements of the first that have the property, each as often and in the same order, and no others
pub data Picked {A : Type 0} (P : A → Type 0) : List A → List A → Type 0 where
  none : Picked P [] []
  taken : {x : A} {xs ys : List A} → P x → Picked P xs ys → Picked P (x ∷ xs) (x ∷ ys)
  left : {x : A} {xs ys : List A} → (P x → ⊥) → Picked P xs ys → Picked P (x ∷ xs) ys

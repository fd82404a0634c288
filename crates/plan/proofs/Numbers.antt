-- Kinds by their numbers, as a number read gives them. Assumes nothing.
use Rattle.std.proofs.Common.{◌≡◌, ℕ, zero, suc, Some, None, Ok, Err, Result, List, ◌∷◌, ◌++◌, sym, ◌∙◌, subst, refl, arith}
use Rattle.std.specs.Result.{result_ok}
use Rattle.plan.specs.declared.Kind.{Kind}
use Rattle.plan.specs.declared.Kind.TheVariants as kind
use Rattle.plan.specs.declared.UnknownKind.{UnknownKind}
use Rattle.plan.specs.declared.Shape.{Shape}
use Rattle.plan.specs.Plans.{kind_number, KindOf, IsKind, BeginsWith}

pub is_kind : (k : Kind) → IsKind (kind_number k)
is_kind kind.Scan = (omega arith, omega arith)
is_kind kind.Filter = (omega arith, omega arith)
is_kind kind.BlockJoin = (omega arith, omega arith)

-- the kind read has that number
pub the_kind : (n : ℕ) (k : Kind) (r : Result Kind UnknownKind) → KindOf n r → Some k ≡ result_ok r → kind_number k ≡ n
the_kind n k (Ok j) e h = let same : k ≡ j = cc in rw same e
the_kind n k (Err u) e h = cc

-- where no kind is read, the table has no such number, and no operator stands first
unknown : (n : ℕ) (r : Result Kind UnknownKind) → KindOf n r → None ≡ result_ok r → IsKind n → ⊥
unknown n (Ok k) e h known = cc
unknown zero (Err u) (e, other) h (low, high) = omega arith
unknown (suc zero) (Err u) (e, other) h known = other kind.Scan refl
unknown (suc (suc zero)) (Err u) (e, other) h known = other kind.Filter refl
unknown (suc (suc (suc zero))) (Err u) (e, other) h known = other kind.BlockJoin refl
unknown (suc (suc (suc (suc n)))) (Err u) (e, other) h (low, high) = omega arith

pub none_first : (n : ℕ) (behind bs : List ℕ) (r : Result Kind UnknownKind) → KindOf n r → None ≡ result_ok r → bs ≡ n ∷ behind
    → (shape : Shape) (rest : List ℕ) → BeginsWith bs shape rest → ⊥
none_first n behind bs r e h w shape rest b =
    let w' : b.number ∷ (b.parameters ++ rest) ≡ n ∷ behind = sym b.written ∙ w in
    let same : b.number ≡ n = cc in
    unknown n r e h (subst IsKind same b.known)

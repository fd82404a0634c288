-- The plan of an operator over two children is one tree, and tells its parts. Assumes nothing.
use Rattle.std.proofs.Common.{◌≡◌, ℕ, ◌+◌, ◌<◌, ◌≤◌, List, ◌∷◌, ◌++◌, length, take, drop, sym, refl, ap, ◌∙◌, append_assoc, append-nil, arith}
use Rattle.std.proofs.lemmas.List.{take_at, drop_at}
use Rattle.codec.specs.Bytes.{Word}
use Rattle.plan.specs.Plans.{kinds, kind_parameters, kind_children, kind_keepers, Trees, none, tree, count, Proper, plan_bytes, operators, keepers, Planned}
use Rattle.pairing.specs.Terms.{Terms, terms_bytes}

-- trees beside other trees
abbrev beside : Trees → Trees → Trees
beside none u = u
beside (tree k ps below behind) u = tree k ps below (beside behind u)

beside_count : (t u : Trees) → count (beside t u) ≡ count t + count u
beside_count none u = omega arith
beside_count (tree k ps below behind) u = omega (arith, beside_count behind u)

beside_proper : (t u : Trees) → Proper t → Proper u → Proper (beside t u)
beside_proper none u p q = q
beside_proper (tree k ps below behind) u (p1, p2, p3, p4, p5, p6) q = (p1, p2, p3, p4, p5, beside_proper behind u p6 q)

beside_bytes : (t u : Trees) → plan_bytes (beside t u) ≡ plan_bytes t ++ plan_bytes u
beside_bytes none u = refl
beside_bytes (tree k ps below behind) u =
    ap (λ (l : List ℕ). k ∷ (ps ++ (plan_bytes below ++ l))) (beside_bytes behind u) ∙ simp append_assoc

beside_operators : (t u : Trees) → operators (beside t u) ≡ operators t + operators u
beside_operators none u = omega arith
beside_operators (tree k ps below behind) u = omega (arith, beside_operators behind u)

beside_keepers : (t u : Trees) → keepers (beside t u) ≡ keepers t + keepers u
beside_keepers none u = omega arith
beside_keepers (tree k ps below behind) u = omega (arith, beside_keepers behind u)

-- a parent of two children
pub planned_over : (k : ℕ) (ps : List ℕ) (m m' q q' : ℕ) (outer inner : List ℕ) → 1 ≤ k → k < length kinds → length ps ≡ kind_parameters k → kind_children k ≡ 2 → kind_keepers k ≡ 1 → Planned m q outer → Planned m' q' inner
    → Planned (1 + (m + m')) (1 + (q + q')) ((k ∷ ps) ++ (outer ++ inner))
planned_over k ps m m' q q' outer inner low high long two one a b =
    let c = beside_count a.trees b.trees in
    let o = beside_operators a.trees b.trees in
    let e = beside_keepers a.trees b.trees in
    record {
      trees = tree k ps (beside a.trees b.trees) none;
      proper = (low, high, long, omega (arith, a.one, b.one), beside_proper a.trees b.trees a.proper b.proper, tt);
      one = refl;
      written = ap (λ (l : List ℕ). k ∷ (ps ++ l)) (append-nil (plan_bytes (beside a.trees b.trees)) ∙ beside_bytes a.trees b.trees ∙ ap (λ (l : List ℕ). l ++ plan_bytes b.trees) a.written ∙ ap (λ (l : List ℕ). outer ++ l) b.written);
      operators = omega (arith, a.operators, b.operators);
      keepers = omega (arith, a.keepers, b.keepers);
    }

-- two lists end to end, the first ones equally long
pub cut_front : {A : Type 0} (xs ys us vs : List A) → length ys ≡ length xs → ys ++ vs ≡ xs ++ us → (ys ≡ xs) × (vs ≡ us)
cut_front xs ys us vs l e = (
  sym (take_at ys vs (length xs) l) ∙ ap (take (length xs)) e ∙ take_at xs us (length xs) refl,
  sym (drop_at ys vs (length xs) l) ∙ ap (drop (length xs)) e ∙ drop_at xs us (length xs) refl,
)

-- the parameters in a plan
pub record Parts (s t : Terms) (a b : List ℕ) : Type 0 where
  pub terms : t ≡ s
  pub behind : b ≡ a

pub parts : (k : ℕ) (s t : Terms) (a b : List ℕ) → (k ∷ terms_bytes t) ++ b ≡ (k ∷ terms_bytes s) ++ a → Parts s t a b
parts k s t a b e =
    let z0 : t.size ≡ s.size = cc in
    let z1 : t.left ≡ s.left = cc in
    let z2 : t.right ≡ s.right = cc in
    let z3 : t.condition ≡ s.condition = cc in
    let z4 : t.band.b3 ≡ s.band.b3 = cc in
    let z5 : t.band.b2 ≡ s.band.b2 = cc in
    let z6 : t.band.b1 ≡ s.band.b1 = cc in
    let z7 : t.band.b0 ≡ s.band.b0 = cc in
    let w : ◌≡◌ {A = Word} (record { b3 = t.band.b3; b2 = t.band.b2; b1 = t.band.b1; b0 = t.band.b0 }) (record { b3 = s.band.b3; b2 = s.band.b2; b1 = s.band.b1; b0 = s.band.b0 }) = cc in
    let same : ◌≡◌ {A = Terms} (record { size = t.size; left = t.left; right = t.right; condition = t.condition; band = t.band }) (record { size = s.size; left = s.left; right = s.right; condition = s.condition; band = s.band }) = cc in
    record { terms = same; behind = cc }

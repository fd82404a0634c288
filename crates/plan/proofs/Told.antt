-- The test of plan bytes told as a function, and what one tree's bytes tell of it. Assumes nothing.
use Rattle.std.proofs.Common.{◌≡◌, ℕ, zero, suc, ◌+◌, ◌-◌, ◌*◌, ◌<◌, ◌≤◌, Bool, true, false, ◌&&◌, ◌==◌, ltb, leb, ◌⊎◌, inl, inr, List, [], ◌∷◌, ◌++◌, length, take, drop, Decides, sym, refl, ap, ◌∙◌, append_assoc, append-nil, arith, length-append}
use Rattle.std.proofs.lemmas.Bool.Decides.{Decides-like, Decides-at, Decides-and, Decides-eqb, Decides-ltb, same_from_decides}
use Rattle.std.proofs.lemmas.Bool.{leb-true, le-leb, lt-ltb}
use Rattle.std.proofs.lemmas.List.{drop_at, length-take-le, take-append-drop}
use Rattle.plan.specs.declared.Shape.{Shape}
use Rattle.plan.specs.Plans.{kinds, IsKind, kind_at, BeginsWith, Trees, none, tree, count, Proper, plan_bytes, operators, keepers, kind_parameters, kind_children, kind_keepers, Exactly, Planned, trees_told, one_tree}
use Rattle.plan.proofs.Steps.{first, again, no_bytes, all_read, nothing_left, refused, same}

decides_leb : (x y : ℕ) → Decides (leb x y) (x ≤ y)
decides_leb x y = (leb-true x y, le-leb x y)

empty : (bs : List ℕ) → length bs ≡ 0 → bs ≡ []
empty [] e = refl
empty (x ∷ bs) e = absurd (omega arith)

no_operator : (n q : ℕ) (bs : List ℕ) → Exactly (suc n) 0 q bs → ⊥
no_operator n q bs x = go x.trees x.counted x.few
  where
    go : (f : Trees) → count f ≡ suc n → operators f ≤ 0 → ⊥
    go none c o = omega arith
    go (tree k ps b r) c o = omega arith

told_more : (m n q k : ℕ) (bs : List ℕ) → trees_told (suc m) (suc n) q (k ∷ bs) ≡ (leb 1 k && (ltb k (length kinds) && (leb (kind_parameters k) (length bs) && (leb (kind_keepers k) q
    && trees_told m (kind_children k + n) (q - kind_keepers k) (drop (kind_parameters k) bs)))))
unfolding trees_told
told_more m n q k bs = refl

pub told : (m n q : ℕ) (bs : List ℕ) → Decides (trees_told m n q bs) (Exactly n m q bs)
unfolding trees_told
told m zero q bs = Decides-like _ (λ e. nothing_left m q bs (empty bs e)) (all_read m q bs) (Decides-eqb (length bs) 0)
told zero (suc n) q bs = refused (no_operator n q bs)
told (suc m) (suc n) q [] = refused (no_bytes n (suc m) q)
told (suc m) (suc n) q (k ∷ bs) =
    Decides-at _ _ (told_more m n q k bs) (Decides-like _
    (λ x. again k n (suc m) q bs (record { low = x.0; high = x.1.0; long = x.1.1.0; some = omega arith; kept = x.1.1.1.0; rest = same _ _ m (suc m - 1) _ _ _ _ refl (omega arith) refl refl x.1.1.1.1 }))
    (λ x. let f = first k n (suc m) q bs x in (f.low, (f.high, (f.long, (f.kept, same _ _ (suc m - 1) m _ _ _ _ refl (omega arith) refl refl f.rest)))))
    (Decides-and _ _ (decides_leb 1 k) (Decides-and _ _ (Decides-ltb k (length kinds)) (Decides-and _ _ (decides_leb (kind_parameters k) (length bs))
    (Decides-and _ _ (decides_leb (kind_keepers k) q) (told m (kind_children k + n) (q - kind_keepers k) (drop (kind_parameters k) bs)))))))

-- what is computed is also decided
pub also : (r : Bool) (bs : List ℕ) → r ≡ one_tree bs → Decides r (Exactly 1 16 6 bs) × (r ≡ one_tree bs)
also r bs e = (Decides-at _ _ e (told 16 1 6 bs), e)

-- one turn of the test: with no tree to come, with no operator first, with no room for it, and with room
pub told_end : (m n q : ℕ) (bs : List ℕ) → n ≡ 0 → trees_told m n q bs ≡ (length bs == 0)
unfolding trees_told
told_end m zero q bs e = refl
told_end m (suc n) q bs e = absurd (omega arith)

-- what begins bytes that begin with an operator
begins : (k : ℕ) (bs : List ℕ) → IsKind k → kind_parameters k ≤ length bs → BeginsWith (k ∷ bs) (kind_at k) (drop (kind_parameters k) bs)
begins k bs known long = record {
  number = k;
  parameters = take (kind_parameters k) bs;
  known = known;
  is = refl;
  whole = length-take-le (kind_parameters k) bs long;
  written = ap (λ l. k ∷ l) (sym (take-append-drop (kind_parameters k) bs));
}

pub told_nothing : (m n q : ℕ) (bs : List ℕ) → 0 < n → ((shape : Shape) (rest : List ℕ) → BeginsWith bs shape rest → ⊥) → trees_told m n q bs ≡ false
told_nothing m n q bs h o = same_from_decides _ false (told m n q bs) (refused (no n bs h o))
  where
    no : (n : ℕ) (bs : List ℕ) → 0 < n → ((shape : Shape) (rest : List ℕ) → BeginsWith bs shape rest → ⊥) → Exactly n m q bs → ⊥
    no zero bs h o x = omega arith
    no (suc n) [] h o x = no_bytes n m q x
    no (suc n) (k ∷ bs) h o x = let f = first k n m q bs x in o (kind_at k) _ (begins k bs (f.low, f.high) f.long)

pub told_full : (m n q : ℕ) (bs : List ℕ) (shape : Shape) (rest : List ℕ) → 0 < n → BeginsWith bs shape rest → (m ≡ 0) ⊎ (q < shape.keepers) → trees_told m n q bs ≡ false
told_full m n q bs shape rest h b full = same_from_decides _ false (told m n q bs) (refused (λ x.
    let f = first b.number (n - 1) m q (b.parameters ++ rest) (same _ _ _ _ _ _ _ _ (omega arith) refl refl b.written x) in
    let e : shape.keepers ≡ kind_keepers b.number = ap (λ (s : Shape). s.keepers) b.is in
    elim full [ inl z ↦ omega (arith, f.some) | inr z ↦ omega (arith, f.kept) ]))

turn : (m n q k : ℕ) (ps rest : List ℕ) → IsKind k → length ps ≡ kind_parameters k → kind_keepers k ≤ q
    → trees_told (suc m) (suc n) q (k ∷ (ps ++ rest)) ≡ trees_told m (kind_children k + n) (q - kind_keepers k) rest
turn m n q k ps rest (low, high) whole room =
    let long : kind_parameters k ≤ length (ps ++ rest) = omega (arith, length-append ps rest) in
    told_more m n q k (ps ++ rest) ∙ rw (le-leb 1 k low, lt-ltb k (length kinds) high, le-leb (kind_parameters k) (length (ps ++ rest)) long, le-leb (kind_keepers k) q room, drop_at ps rest (kind_parameters k) whole)

pub told_turn : (m n q : ℕ) (bs : List ℕ) (shape : Shape) (rest : List ℕ) → 0 < n → BeginsWith bs shape rest → 0 < m → shape.keepers ≤ q
    → trees_told m n q bs ≡ trees_told (m - 1) (n - 1 + shape.children) (q - shape.keepers) rest
told_turn zero n q bs shape rest h b some room = absurd (omega arith)
told_turn (suc m) zero q bs shape rest h b some room = absurd (omega arith)
told_turn (suc m) (suc n) q bs shape rest h b some room =
    let p : shape.parameters ≡ kind_parameters b.number = ap (λ (s : Shape). s.parameters) b.is in
    let e : shape.keepers ≡ kind_keepers b.number = ap (λ (s : Shape). s.keepers) b.is in
    let d : shape.children ≡ kind_children b.number = ap (λ (s : Shape). s.children) b.is in
    ap (trees_told (suc m) (suc n) q) b.written ∙ turn m n q b.number b.parameters rest b.known (b.whole ∙ p) (omega arith)
    ∙ alike m (suc m - 1) _ (suc n - 1 + shape.children) _ (q - shape.keepers) rest (omega arith) (omega arith) (omega arith)
  where
    alike : (m m' n n' q q' : ℕ) (rest : List ℕ) → m ≡ m' → n ≡ n' → q ≡ q' → trees_told m n q rest ≡ trees_told m' n' q' rest
    alike m m' n n' q q' rest a b c = rw (a, b, c)

-- an operator has two children at most
pub few_children : (k : ℕ) → kind_children k ≤ 2
few_children zero = omega arith
few_children (suc zero) = omega arith
few_children (suc (suc zero)) = omega arith
few_children (suc (suc (suc zero))) = omega arith
few_children (suc (suc (suc (suc k)))) = omega arith

pub few_in_shape : (bs : List ℕ) (shape : Shape) (rest : List ℕ) → BeginsWith bs shape rest → shape.children ≤ 2
few_in_shape bs shape rest b = let d : shape.children ≡ kind_children b.number = ap (λ (s : Shape). s.children) b.is in omega (arith, few_children b.number)

-- trees that stand first in bytes read to be trees are those that were read
record Behind (f : Trees) (n m q : ℕ) (rest : List ℕ) : Type 0 where
  few : operators f ≤ m
  kept : keepers f ≤ q
  more : Exactly n (m - operators f) (q - keepers f) rest

behind : (f : Trees) (n m q : ℕ) (rest : List ℕ) → Proper f → Exactly (count f + n) m q (plan_bytes f ++ rest) → Behind f n m q rest
behind none n m q rest p x = record { few = omega arith; kept = omega arith; more = same _ _ _ _ _ _ _ _ (omega arith) (omega arith) (omega arith) refl x }
behind (tree k ps b r) n m q rest (p1, p2, p3, p4, p5, p6) x =
    let e : (ps ++ (plan_bytes b ++ plan_bytes r)) ++ rest ≡ ps ++ (plan_bytes b ++ (plan_bytes r ++ rest)) = simp append_assoc in
    let f = first k (count r + n) m q _ (same _ _ _ _ _ _ _ _ (omega arith) refl refl (ap (λ l. k ∷ l) e) x) in
    let y = behind b (count r + n) (m - 1) (q - kind_keepers k) (plan_bytes r ++ rest) p5
    (same _ _ _ _ _ _ _ _ (omega arith) refl refl (drop_at ps _ (kind_parameters k) p3) f.rest) in
    let z = behind r n (m - 1 - operators b) (q - kind_keepers k - keepers b) rest p6 y.more in
    record {
      few = omega (arith, f.some, y.few, z.few);
      kept = omega (arith, f.kept, y.kept, z.kept);
      more = same _ _ _ _ _ _ _ _ refl (omega (arith, f.some, y.few, z.few)) (omega (arith, f.kept, y.kept, z.kept)) refl z.more;
    }

pub within : (m q : ℕ) (bs : List ℕ) → Planned m q bs → one_tree bs ≡ true → (m ≤ 16) × (q ≤ 6)
within m q bs p e =
    let x = (told 16 1 6 bs).0 e in
    let y = behind p.trees 0 16 6 [] p.proper (same _ _ _ _ _ _ _ _ (omega (arith, p.one)) refl refl (sym p.written ∙ sym (append-nil (plan_bytes p.trees))) x) in
    (omega (arith, y.few, p.operators), omega (arith, y.kept, p.keepers))

pub is_one_tree_lem : (m q : ℕ) (bs : List ℕ) → Planned m q bs → m ≤ 16 → q ≤ 6 → one_tree bs ≡ true
is_one_tree_lem m q bs p o k =
    (told 16 1 6 bs).1 (record { trees = p.trees; proper = p.proper; counted = p.one; written = p.written; few = omega (arith, p.operators); kept = omega (arith, p.keepers) })

-- a plan has at most 15 bytes for each operator
few_parameters : (k : ℕ) → kind_parameters k ≤ 14
few_parameters zero = omega arith
few_parameters (suc zero) = omega arith
few_parameters (suc (suc zero)) = omega arith
few_parameters (suc (suc (suc zero))) = omega arith
few_parameters (suc (suc (suc (suc k)))) = omega arith

few_bytes : (f : Trees) → Proper f → length (plan_bytes f) ≤ 15 * operators f
few_bytes none p = omega arith
few_bytes (tree k ps b r) (p1, p2, p3, p4, p5, p6) =
    omega (arith, few_parameters k, length-append ps (plan_bytes b ++ plan_bytes r), length-append (plan_bytes b) (plan_bytes r), few_bytes b p5, few_bytes r p6)

pub plan_length : (m q : ℕ) (bs : List ℕ) → Planned m q bs → length bs ≤ 15 * m
plan_length m q bs p = omega (arith, few_bytes p.trees p.proper, ap length p.written, p.operators)

-- and at most as many keepers as operators
one_keeper : (k : ℕ) → kind_keepers k ≤ 1
one_keeper zero = omega arith
one_keeper (suc zero) = omega arith
one_keeper (suc (suc zero)) = omega arith
one_keeper (suc (suc (suc zero))) = omega arith
one_keeper (suc (suc (suc (suc k)))) = omega arith

few_keepers : (f : Trees) → keepers f ≤ operators f
few_keepers none = omega arith
few_keepers (tree k ps b r) = omega (arith, one_keeper k, few_keepers b, few_keepers r)

pub plan_keepers : (m q : ℕ) (bs : List ℕ) → Planned m q bs → q ≤ m
plan_keepers m q bs p = omega (arith, few_keepers p.trees, p.operators, p.keepers)

-- and one operator at least
some_operator : (f : Trees) → count f ≤ operators f
some_operator none = omega arith
some_operator (tree k ps b r) = omega (arith, some_operator r)

pub plan_operators : (m q : ℕ) (bs : List ℕ) → Planned m q bs → 1 ≤ m
plan_operators m q bs p = omega (arith, some_operator p.trees, p.one, p.operators)

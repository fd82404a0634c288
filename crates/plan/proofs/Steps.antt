-- Trees side by side, taken apart at the first operator and put together again. Assumes nothing.
use Rattle.std.proofs.Common.{◌≡◌, ℕ, zero, suc, ◌+◌, ◌-◌, ◌<◌, ◌≤◌, false, List, [], ◌∷◌, ◌++◌, length, take, drop, Decides, sym, refl, ap, ◌∙◌, append_assoc, arith, length-append}
use Rattle.std.proofs.lemmas.Bool.{false≢true}
use Rattle.std.proofs.lemmas.List.{drop_at, length-take-le, take-append-drop}
use Rattle.plan.specs.Plans.{Trees, none, tree, count, Proper, plan_bytes, operators, keepers, kind_parameters, kind_children, kind_keepers, Exactly}

-- two rows of trees as one
abbrev beside : Trees → Trees → Trees
beside none g = g
beside (tree k ps b r) g = tree k ps b (beside r g)

count_beside : (f g : Trees) → count (beside f g) ≡ count f + count g
count_beside none g = omega arith
count_beside (tree k ps b r) g = omega (arith, count_beside r g)

operators_beside : (f g : Trees) → operators (beside f g) ≡ operators f + operators g
operators_beside none g = omega arith
operators_beside (tree k ps b r) g = omega (arith, operators_beside r g)

keepers_beside : (f g : Trees) → keepers (beside f g) ≡ keepers f + keepers g
keepers_beside none g = omega arith
keepers_beside (tree k ps b r) g = omega (arith, keepers_beside r g)

bytes_beside : (f g : Trees) → plan_bytes (beside f g) ≡ plan_bytes f ++ plan_bytes g
bytes_beside none g = refl
bytes_beside (tree k ps b r) g =
    ap (λ l. k ∷ (ps ++ (plan_bytes b ++ l))) (bytes_beside r g) ∙ ap (λ l. k ∷ l) (simp append_assoc)

proper_beside : (f g : Trees) → Proper f → Proper g → Proper (beside f g)
proper_beside none g p q = q
proper_beside (tree k ps b r) g (a, b1, c, d, e, p) q = (a, b1, c, d, e, proper_beside r g p q)

-- the first a trees, and the others
record Parts (a : ℕ) (f : Trees) : Type 0 where
  front : Trees
  back : Trees
  joined : beside front back ≡ f
  many : count front ≡ a
  good_front : Proper front
  good_back : Proper back

parts : (a : ℕ) (f : Trees) → a ≤ count f → Proper f → Parts a f
parts zero f h p = record { front = none; back = f; joined = refl; many = refl; good_front = tt; good_back = p }
parts (suc a) none h p = absurd (omega arith)
parts (suc a) (tree k ps b r) h (p1, p2, p3, p4, p5, p6) =
    let s = parts a r (omega arith) p6 in
    record {
      front = tree k ps b s.front;
      back = s.back;
      joined = ap (tree k ps b) s.joined;
      many = ap suc s.many;
      good_front = (p1, p2, p3, p4, p5, s.good_front);
      good_back = s.good_back;
    }

-- no byte for a tree
pub no_bytes : (n m q : ℕ) → Exactly (suc n) m q [] → ⊥
no_bytes n m q x = no x.trees x.counted x.written
  where
    no : (f : Trees) → count f ≡ suc n → plan_bytes f ≡ [] → ⊥
    no none e w = omega arith
    no (tree k ps b r) e w = let z : suc (length (ps ++ (plan_bytes b ++ plan_bytes r))) ≡ 0 = ap length w in omega arith

-- no tree: no byte
pub all_read : (m q : ℕ) (bs : List ℕ) → Exactly 0 m q bs → length bs ≡ 0
all_read m q bs x = no x.trees x.counted x.written
  where
    no : (f : Trees) → count f ≡ 0 → plan_bytes f ≡ bs → length bs ≡ 0
    no none e w = ap length (sym w)
    no (tree k ps b r) e w = absurd (omega arith)

pub nothing_left : (m q : ℕ) (bs : List ℕ) → bs ≡ [] → Exactly 0 m q bs
nothing_left m q bs e = record { trees = none; proper = tt; counted = refl; written = sym e; few = omega arith; kept = omega arith }

-- what the first byte and the bytes behind it are
pub record First (k n m q : ℕ) (bs : List ℕ) : Type 0 where
  pub low : 1 ≤ k
  pub high : k < 4
  pub long : kind_parameters k ≤ length bs
  pub some : 1 ≤ m
  pub kept : kind_keepers k ≤ q
  pub rest : Exactly (kind_children k + n) (m - 1) (q - kind_keepers k) (drop (kind_parameters k) bs)

pub first : (k n m q : ℕ) (bs : List ℕ) → Exactly (suc n) m q (k ∷ bs) → First k n m q bs
first k n m q bs x = go x.trees x.proper x.counted x.written x.few x.kept
  where
    go : (f : Trees) → Proper f → count f ≡ suc n → plan_bytes f ≡ k ∷ bs → operators f ≤ m → keepers f ≤ q → First k n m q bs
    go none p c w o h = absurd (omega arith)
    go (tree j ps b r) (p1, p2, p3, p4, p5, p6) c w o h =
        let j_is : j ≡ k = cc in
        let rest_is : ps ++ (plan_bytes b ++ plan_bytes r) ≡ bs = cc in
        let params_is : kind_parameters j ≡ kind_parameters k = ap kind_parameters j_is in
        let kind_children_is : kind_children j ≡ kind_children k = ap kind_children j_is in
        let keeper_is : kind_keepers j ≡ kind_keepers k = ap kind_keepers j_is in
        let len : length bs ≡ length ps + length (plan_bytes b ++ plan_bytes r) = ap length (sym rest_is) ∙ length-append ps (plan_bytes b ++ plan_bytes r) in
        record {
          low = omega arith;
          high = omega arith;
          long = omega arith;
          some = omega arith;
          kept = omega arith;
          rest = record {
            trees = beside b r;
            proper = proper_beside b r p5 p6;
            counted = omega (arith, count_beside b r);
            written = bytes_beside b r ∙ sym (drop_at ps (plan_bytes b ++ plan_bytes r) (kind_parameters k) (p3 ∙ params_is)) ∙ ap (drop (kind_parameters k)) rest_is;
            few = omega (arith, operators_beside b r);
            kept = omega (arith, keepers_beside b r);
          };
        }

pub again : (k n m q : ℕ) (bs : List ℕ) → First k n m q bs → Exactly (suc n) m q (k ∷ bs)
again k n m q bs x =
    let e = x.rest in
    let s = parts (kind_children k) e.trees (omega (arith, e.counted)) e.proper in
    let f = s.front in
    let r = s.back in
    let c : count e.trees ≡ count f + count r = ap count (sym s.joined) ∙ count_beside f r in
    let o : operators e.trees ≡ operators f + operators r = ap operators (sym s.joined) ∙ operators_beside f r in
    let h : keepers e.trees ≡ keepers f + keepers r = ap keepers (sym s.joined) ∙ keepers_beside f r in
    let w : plan_bytes f ++ plan_bytes r ≡ drop (kind_parameters k) bs = sym (bytes_beside f r) ∙ ap plan_bytes s.joined ∙ e.written in
    record {
      trees = tree k (take (kind_parameters k) bs) f r;
      proper = (x.low, x.high, length-take-le (kind_parameters k) bs x.long, s.many, s.good_front, s.good_back);
      counted = omega (arith, e.counted, s.many);
      written = ap (λ l. k ∷ (take (kind_parameters k) bs ++ l)) w ∙ ap (λ l. k ∷ l) (take-append-drop (kind_parameters k) bs);
      few = omega (arith, e.few, x.some);
      kept = omega (arith, e.kept, x.kept);
    }

-- a refusal is right where there is no such tree
pub refused : {P : Type 0} → (P → ⊥) → Decides false P
refused h = ((λ e. absurd (false≢true e)), λ p. absurd (h p))

pub same : (n n' m m' q q' : ℕ) (bs bs' : List ℕ) → n ≡ n' → m ≡ m' → q ≡ q' → bs ≡ bs' → Exactly n m q bs → Exactly n' m' q' bs'
same n n' m m' q q' bs bs' en em eq eb x =
    record { trees = x.trees; proper = x.proper; counted = x.counted ∙ en; written = x.written ∙ eb; few = omega (arith, x.few); kept = omega (arith, x.kept) }

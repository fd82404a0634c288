-- Records and their bodies. Assumes nothing.
use Rattle.std.proofs.Common.{◌≡◌, ℕ, ◌+◌, ◌-◌, ◌*◌, ◌/◌, ◌%◌, ◌<◌, ◌≤◌, Bool, true, false, cond, eqb, List, [], ◌∷◌, length, get_or, drop, Some, None, sym, refl, ap, ◌∙◌, arith}
use Rattle.std.proofs.lemmas.Bool.{eqb-true, eq-eqb, ne_eqb, cond-true, cond-false}
use Rattle.std.specs.List.{AllByRecursion}
use Rattle.codec.specs.Frames.{framed, body, number}
use Rattle.codec.specs.Layouts.{Byte}
use Rattle.codec.specs.Bytes.{be2, of2}

-- the body of a body behind its length
pub body_framed : (xs : List ℕ) → length xs < 65536 → body (framed xs) ≡ Some xs
unfolding framed body
body_framed xs h = cond-true _ (Some xs) None (eq-eqb _ _ (omega arith))

pub framed_length : (xs : List ℕ) → length (framed xs) ≡ 2 + length xs
unfolding framed
framed_length xs = omega arith

pub framed_drop : (xs : List ℕ) → drop 2 (framed xs) ≡ xs
unfolding framed
framed_drop xs = refl

-- what the code finds: the body from the third byte on
pub body_yes : (xs : List ℕ) → 2 ≤ length xs → get_or xs 0 0 * 256 + get_or xs 1 0 ≡ length xs - 2 → body xs ≡ Some (drop 2 xs)
unfolding body
body_yes [] le e = absurd (omega arith)
body_yes (h ∷ []) le e = absurd (omega arith)
body_yes (h ∷ (l ∷ xs)) le e = cond-true _ (Some xs) None (eq-eqb _ _ (omega arith))

pub body_no : (xs : List ℕ) → 2 ≤ length xs → (get_or xs 0 0 * 256 + get_or xs 1 0 ≡ length xs - 2 → ⊥) → body xs ≡ None
unfolding body
body_no [] le e = refl
body_no (h ∷ []) le e = refl
body_no (h ∷ (l ∷ xs)) le e = cond-false _ (Some xs) None (ne_eqb _ _ (λ q. e (omega arith)))

pub body_short : (xs : List ℕ) → length xs < 2 → body xs ≡ None
unfolding body
body_short [] lt = refl
body_short (h ∷ []) lt = refl
body_short (h ∷ (l ∷ xs)) lt = absurd (omega arith)

picked : (b : Bool) (xs ys : List ℕ) → cond b (Some xs) None ≡ Some ys → xs ≡ ys
picked true xs ys e = cc
picked false xs ys e = absurd (let z : ◌≡◌ {A = ℕ} 0 1 = cc in omega arith)

pub body_drop : (xs ys : List ℕ) → body xs ≡ Some ys → drop 2 xs ≡ ys
unfolding body
body_drop [] ys e = absurd (let z : ◌≡◌ {A = ℕ} 0 1 = cc in omega arith)
body_drop (h ∷ []) ys e = absurd (let z : ◌≡◌ {A = ℕ} 0 1 = cc in omega arith)
body_drop (h ∷ (l ∷ xs)) ys e = picked (eqb (h * 256 + l) (length xs)) xs ys e

pub number_yes : (xs : List ℕ) → length xs ≡ 2 → number xs ≡ Some (get_or xs 0 0 * 256 + get_or xs 1 0)
unfolding number
number_yes [] e = absurd (omega arith)
number_yes (h ∷ []) e = absurd (omega arith)
number_yes (h ∷ (l ∷ [])) e = refl
number_yes (h ∷ (l ∷ (x ∷ xs))) e = absurd (omega arith)

pub number_no : (xs : List ℕ) → (length xs ≡ 2 → ⊥) → number xs ≡ None
unfolding number
number_no [] n = refl
number_no (h ∷ []) n = refl
number_no (h ∷ (l ∷ [])) n = absurd (n refl)
number_no (h ∷ (l ∷ (x ∷ xs))) n = refl

pub number_back : (p : ℕ) → p < 65536 → number (be2 p) ≡ Some p
unfolding number
number_back p h = ap Some (omega arith)

framed_at : (b : Bool) (h l : ℕ) (xs ys : List ℕ) → eqb (h * 256 + l) (length xs) ≡ b → h < 256 → l < 256 → cond b (Some xs) None ≡ Some ys → framed ys ≡ h ∷ (l ∷ xs)
unfolding framed
framed_at true h l xs ys e p q f =
    let s : xs ≡ ys = cc in
    let n : h * 256 + l ≡ length ys = eqb-true (h * 256 + l) (length xs) e ∙ ap length s in
    let a : length ys / 256 % 256 ≡ h = omega arith in
    let b : length ys % 256 ≡ l = omega arith in
    cc
framed_at false h l xs ys e p q f = absurd (let z : ◌≡◌ {A = ℕ} 0 1 = cc in omega arith)

-- a record is its body behind its length
pub framed_body : (bs inside : List ℕ) → AllByRecursion Byte bs → body bs ≡ Some inside → framed inside ≡ bs
unfolding body
framed_body [] ys h e = absurd (let z : ◌≡◌ {A = ℕ} 0 1 = cc in omega arith)
framed_body (a ∷ []) ys h e = absurd (let z : ◌≡◌ {A = ℕ} 0 1 = cc in omega arith)
framed_body (a ∷ (b ∷ xs)) ys (p, (q, h)) e = framed_at (eqb (a * 256 + b) (length xs)) a b xs ys refl p q e

-- a record's first two bytes name the length of what follows
pub framed_of2 : (xs : List ℕ) → length xs < 65536 → length (framed xs) ≡ 2 + of2 (framed xs)
unfolding framed
framed_of2 xs h = omega arith

inner_length : (b : Bool) (xs ys : List ℕ) → cond b (Some xs) None ≡ Some ys → length ys ≡ length xs
inner_length b xs ys e = ap length (sym (picked b xs ys e))

-- a body is two bytes shorter than its record
pub body_length : (bs inside : List ℕ) → body bs ≡ Some inside → 2 + length inside ≡ length bs
unfolding body
body_length [] ys e = absurd (let z : ◌≡◌ {A = ℕ} 0 1 = cc in omega arith)
body_length (a ∷ []) ys e = absurd (let z : ◌≡◌ {A = ℕ} 0 1 = cc in omega arith)
body_length (a ∷ (b ∷ xs)) ys e = omega (arith, inner_length (eqb (a * 256 + b) (length xs)) xs ys e)

-- two bytes name at most 65,535
bounded : (b : Bool) (h l : ℕ) (xs ys : List ℕ) → eqb (h * 256 + l) (length xs) ≡ b → h < 256 → l < 256 → cond b (Some xs) None ≡ Some ys → 2 + length xs ≤ 65537
bounded true h l xs ys e p q f = omega (arith, eqb-true (h * 256 + l) (length xs) e)
bounded false h l xs ys e p q f = absurd (let z : ◌≡◌ {A = ℕ} 0 1 = cc in omega arith)

pub body_bound : (bs inside : List ℕ) → get_or bs 0 0 < 256 → get_or bs 1 0 < 256 → body bs ≡ Some inside → length bs ≤ 65537
unfolding body
body_bound [] ys p q e = omega arith
body_bound (a ∷ []) ys p q e = omega arith
body_bound (a ∷ (b ∷ xs)) ys p q e = omega (arith, bounded (eqb (a * 256 + b) (length xs)) a b xs ys refl p q e)

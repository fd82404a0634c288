-- A part written behind its head: the part first, by another call, then the head. Assumes nothing.
use Rattle.std.proofs.Common.{◌≡◌, ℕ, ◌+◌, ◌-◌, ◌≤◌, List, ◌++◌, length, take, drop, Ok, Err, sym, ap, ◌∙◌, arith, length-append, length-drop, length-take}
use borrow.Rule.Slice.PartMut.{put_mid}
use Rattle.std.proofs.lemmas.List.{append-nil, append_assoc, take_all, drop_all, drop_at, drop-drop, take-append-drop}
use Rattle.refusal.specs.declared.Refusal.{Refusal}
use Rattle.codec.specs.Written.{Wrote}

-- the part that was lent
abbrev lent : ℕ → List ℕ → List ℕ
lent k xs = take (length xs - k) (drop k xs)

lent_all : (k : ℕ) (xs : List ℕ) → lent k xs ≡ drop k xs
lent_all k xs = take_all (length xs - k) (drop k xs) (omega (arith, length-drop k xs))

lent_length : (k : ℕ) (xs : List ℕ) → length (lent k xs) ≡ length xs - k
lent_length k xs = simp (length-take, length-drop) (omega arith)

-- the buffer with the part back in its place
put_back : (k : ℕ) (xs ys : List ℕ) → put_mid k (length xs - k) xs ys ≡ take k xs ++ ys
put_back k xs ys = ap (λ l. take k xs ++ (ys ++ l)) (drop_all (length xs - k) (drop k xs) (omega (arith, length-drop k xs))) ∙ ap (λ l. take k xs ++ l) (append-nil ys)

-- the part did not fit
pub behind_short : (k : ℕ) (xs ys hs rec : List ℕ) (e : Refusal) → length hs ≡ k → k ≤ length xs → Wrote rec (lent k xs) ys (Err e) → Wrote (hs ++ rec) xs (put_mid k (length xs - k) xs ys) (Err e)
behind_short k xs ys hs rec e n le (six, short, stays) =
    (six, omega (arith, lent_length k xs, length-append hs rec), put_back k xs ys ∙ ap (λ l. take k xs ++ l) (stays ∙ lent_all k xs) ∙ take-append-drop k xs)

-- the part and then the head
pub behind : (k : ℕ) (xs ys new hs rec : List ℕ) (n h : ℕ) → length hs ≡ k → k ≤ length xs → Wrote rec (lent k xs) ys (Ok n) → Wrote hs (put_mid k (length xs - k) xs ys) new (Ok h)
    → Wrote (hs ++ rec) xs new (Ok (n + h))
behind k xs ys new hs rec n h l le (count, fits, part) (count', fits', front) =
    let s : length (hs ++ rec) ≡ k + length rec = length-append hs rec ∙ ap (λ m. m + length rec) l in
    let t : length (take k xs) ≡ k = simp length-take (omega arith) in
    let d : drop (length hs) (put_mid k (length xs - k) xs ys) ≡ ys =
    ap (λ m. drop m (put_mid k (length xs - k) xs ys)) l ∙ ap (drop k) (put_back k xs ys) ∙ drop_at (take k xs) ys k t in
    let y : ys ≡ rec ++ drop (length (hs ++ rec)) xs =
    part ∙ ap (λ m. rec ++ drop (length rec) m) (lent_all k xs) ∙ ap (λ m. rec ++ m) (drop-drop (length rec) k xs ∙ ap (λ m. drop m xs) (sym s)) in
    (omega arith, omega (arith, lent_length k xs), front ∙ ap (λ m. hs ++ m) (d ∙ y) ∙ sym (append_assoc hs rec (drop (length (hs ++ rec)) xs)))

-- Laws of the rows and steps of a block join, one row or block at a time. Assumes nothing.
use Rattle.std.proofs.Common.{◌≡◌, ℕ, zero, suc, ◌+◌, ◌≤◌, Bool, true, false, cond, List, [], ◌∷◌, ◌++◌, length, take, drop, Some, None, Option, sym, refl, ap, ◌∙◌, arith, length-append, length-drop}
use Rattle.std.proofs.lemmas.List.{take_at, drop_at, take_all, drop_all}
use Rattle.std.proofs.lemmas.Bool.{cond-true, cond-false}
use Rattle.codec.specs.declared.row.Row.{Row}
use Rattle.pairing.specs.declared.pair.Hit.{Hit}
use Rattle.pairing.specs.Terms.{match}
use Rattle.pairing.specs.Pairs.{Pairing, row_joined, cut_up, blocks, matches, scanned, joined, scan_steps, block_steps, all_steps, first}

pub scanned_more : (p : Pairing) (block : List Row) (x : Row) (xs : List Row) → scanned p block (x ∷ xs) ≡ matches p block x ++ scanned p block xs
unfolding scanned
scanned_more p block x xs = refl

pub scanned_none : (p : Pairing) (block : List Row) → scanned p block [] ≡ []
unfolding scanned
scanned_none p block = refl

pub joined_more : (p : Pairing) (block : List Row) (others : List (List Row)) (inner : List Row) → joined p (block ∷ others) inner ≡ scanned p block inner ++ joined p others inner
unfolding joined
joined_more p block others inner = refl

pub joined_none : (p : Pairing) (inner : List Row) → joined p [] inner ≡ []
unfolding joined
joined_none p inner = refl

pub scan_steps_more : (p : Pairing) (block : List Row) (x : Row) (xs : List Row) → scan_steps p block (x ∷ xs) ≡ length (matches p block x) + 1 + scan_steps p block xs
unfolding scan_steps
scan_steps_more p block x xs = refl

pub scan_steps_none : (p : Pairing) (block : List Row) → scan_steps p block [] ≡ 0
unfolding scan_steps
scan_steps_none p block = refl

pub all_steps_more : (size : ℕ) (p : Pairing) (block : List Row) (others : List (List Row)) (inner : List Row) (full : ℕ) → all_steps size p (block ∷ others) inner full ≡ block_steps size p block inner full + all_steps size p others inner full
unfolding all_steps
all_steps_more size p block others inner full = refl

pub all_steps_none : (size : ℕ) (p : Pairing) (inner : List Row) (full : ℕ) → all_steps size p [] inner full ≡ 0
unfolding all_steps
all_steps_none size p inner full = refl

pub cut_none : (n size : ℕ) → cut_up n size [] ≡ []
unfolding cut_up
cut_none zero size = refl
cut_none (suc n) size = refl

-- any number that is large enough cuts alike
cut_same : (m n size : ℕ) (rows : List Row) → 1 ≤ size → length rows ≤ m → length rows ≤ n → cut_up m size rows ≡ cut_up n size rows
unfolding cut_up
cut_same zero n size [] h k l = sym (cut_none n size)
cut_same zero n size (x ∷ xs) h k l = absurd (omega arith)
cut_same (suc m) n size [] h k l = sym (cut_none n size)
cut_same (suc m) zero size (x ∷ xs) h k l = absurd (omega arith)
cut_same (suc m) (suc n) size (x ∷ xs) h k l =
    let e = length-drop size (x ∷ xs) in
    ap (λ others. take size (x ∷ xs) ∷ others) (cut_same m n size (drop size (x ∷ xs)) h (omega arith) (omega arith))

pub blocks_none : (size : ℕ) → blocks size [] ≡ []
blocks_none size = cut_none 0 size

pub blocks_full : (size : ℕ) (block rest : List Row) → 1 ≤ size → length block ≡ size → blocks size (block ++ rest) ≡ block ∷ blocks size rest
unfolding cut_up
blocks_full size [] rest h e = absurd (omega arith)
blocks_full size (b ∷ bs) rest h e =
    let l = length-append bs rest in
    let t : take size (b ∷ (bs ++ rest)) ≡ b ∷ bs = take_at (b ∷ bs) rest size e in
    let d : drop size (b ∷ (bs ++ rest)) ≡ rest = drop_at (b ∷ bs) rest size e in
    ap (λ block. block ∷ cut_up (length (bs ++ rest)) size (drop size (b ∷ (bs ++ rest)))) t
    ∙ ap (λ others. (b ∷ bs) ∷ cut_up (length (bs ++ rest)) size others) d
    ∙ ap (λ others. (b ∷ bs) ∷ others) (cut_same (length (bs ++ rest)) (length rest) size rest h (omega arith) (omega arith))

pub blocks_last : (size : ℕ) (block : List Row) → 1 ≤ length block → length block ≤ size → blocks size block ≡ block ∷ []
unfolding cut_up
blocks_last size [] h k = absurd (omega arith)
blocks_last size (b ∷ bs) h k =
    ap (λ block. block ∷ cut_up (length bs) size (drop size (b ∷ bs))) (take_all size (b ∷ bs) k)
    ∙ ap (λ others. (b ∷ bs) ∷ others) (ap (cut_up (length bs) size) (drop_all size (b ∷ bs) k) ∙ cut_none (length bs) size)

-- the first match, in the list of all
abbrev pub Found : Pairing → Row → ℕ → List Row → Option Hit → Type 0
Found p x k bs None = matches p bs x ≡ []
Found p x k bs (Some h) = (n : ℕ) × (h.next ≡ k + n) × (n ≤ length bs) × (matches p bs x ≡ h.row ∷ matches p (drop n bs) x)

later : (p : Pairing) (x : Row) (k : ℕ) (b : Row) (bs : List Row) (r : Option Hit) → matches p (b ∷ bs) x ≡ matches p bs x → Found p x (k + 1) bs r → Found p x k (b ∷ bs) r
later p x k b bs None e f = e ∙ f
later p x k b bs (Some h) e (n, f, l, g) = (suc n, omega arith, omega arith, e ∙ g)

here : (p : Pairing) (x : Row) (k : ℕ) (b : Row) (bs : List Row) (t : Bool) → match p.terms b x ≡ t → Found p x (k + 1) bs (first p x (k + 1) bs) → Found p x k (b ∷ bs) (cond t (Some (record { row = row_joined p.width b x; next = k + 1 })) (first p x (k + 1) bs))
unfolding matches
here p x k b bs true e f = (1, refl, omega arith, cond-true _ _ _ e)
here p x k b bs false e f = later p x k b bs (first p x (k + 1) bs) (cond-false _ _ _ e) f

pub found : (p : Pairing) (x : Row) (k : ℕ) (bs : List Row) → Found p x k bs (first p x k bs)
unfolding first matches
found p x k [] = refl
found p x k (b ∷ bs) = here p x k b bs (match p.terms b x) refl (found p x (k + 1) bs)

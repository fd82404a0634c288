-- The block's part of a record: what is written reads back, and what is read keeps the rules. Assumes nothing.
use Rattle.std.proofs.Common.{◌≡◌, ℕ, ◌+◌, ◌*◌, ◌≤◌, Bool, true, eqb, leb, List, ◌++◌, length, drop, Some, None, Option, sym, refl, ap, ◌∙◌, append_assoc, arith, length-append, length-drop, length-take}
use Rattle.std.specs.List.{AllByRecursion}
use Rattle.std.proofs.lemmas.List.{take_at, drop_at, get_or-take, get_or_append_left}
use Rattle.std.proofs.lemmas.Bool.{leb-true, eqb-true, le-leb}
use Rattle.codec.specs.declared.row.Row.{Row}
use Rattle.codec.specs.Bytes.{of2}
use Rattle.codec.specs.Rows.{Wide, rows_of}
use Rattle.codec.proofs.Rows.{rows_wide}
use Rattle.block.specs.Places.{rows_bytes}
use Rattle.block.specs.Kept.{Kept, dumped, owed, kept_form, kept_count, kept_record, kept_bytes, Of, Cut, cut, Parted, part_at, tailed, parted}
use Rattle.block.proofs.Options.{of_when, of_cond, of_then, when_so, then_so}
use Rattle.block.proofs.Places.{length_rows, rows_back, length_rows_of, rows_short}

-- a record off the front
cut_ok : (bs : List ℕ) → Of (λ (c : Cut). (length c.piece ≡ 2 + of2 c.piece) × (length c.piece + length c.behind ≡ length bs)) (cut bs)
unfolding cut
cut_ok bs = of_when _ (leb (2 + of2 bs) (length bs)) _ (λ t.
    let l = leb-true (2 + of2 bs) (length bs) t in
    let a = get_or-take (2 + of2 bs) bs 0 0 (omega arith) in
    let b = get_or-take (2 + of2 bs) bs 1 0 (omega arith) in
    (simp length-take (omega arith), simp (length-take, length-drop) (omega arith)))

cut_back : (p xs : List ℕ) → length p ≡ 2 + of2 p → cut (p ++ xs) ≡ Some (record { piece = p; behind = xs })
unfolding cut
cut_back p xs h =
    let a = get_or_append_left p xs 0 0 (omega arith) in
    let b = get_or_append_left p xs 0 1 (omega arith) in
    let n : length p ≡ 2 + of2 (p ++ xs) = omega arith in
    let l : 2 + of2 (p ++ xs) ≤ length (p ++ xs) = simp length-append (omega arith) in
    let f : List ℕ → List ℕ → Option Cut = λ u v. Some (record { piece = u; behind = v }) in
    when_so _ _ (le-leb _ _ l) ∙ ap (λ (u : List ℕ). f u (drop (2 + of2 (p ++ xs)) (p ++ xs))) (take_at p xs _ n) ∙ ap (f p) (drop_at p xs _ n)

-- the rules of a block's part
abbrev pub Sound : ℕ → Kept → Type 0
Sound v (dumped rows outer) = AllByRecursion (Wide v) rows × (length outer ≡ 2 + of2 outer)
Sound v (owed count contract) = (length contract ≡ 2 + of2 contract) × (length contract ≤ 512)

pub record OkPart (v b n : ℕ) (p : Parted) : Type 0 where
  pub sound : Sound v p.kept
  pub count : kept_count p.kept ≡ b
  pub room : length (kept_record p.kept) + length p.behind ≤ n

part_ok : (v form b : ℕ) (bs : List ℕ) → v ≤ 8 → Of (OkPart v b (length bs)) (part_at v form b bs)
unfolding part_at
part_ok v form b bs h =
    of_cond _ (eqb form 1) _ _
    (λ t. of_when _ (leb (b * (4 * v)) (length bs)) _ (λ u. of_then _ _ (cut (drop (b * (4 * v)) bs)) _ (cut_ok (drop (b * (4 * v)) bs)) (λ c q.
    record { sound = (rows_wide v b bs h, q.0); count = length_rows_of v b bs; room = omega (arith, q.1, length-drop (b * (4 * v)) bs) })))
    (λ t. of_cond _ (eqb form 2) _ _
    (λ u. of_then _ _ (cut bs) _ (cut_ok bs) (λ c q. of_when _ (leb (length c.piece) 512) _ (λ w. record { sound = (q.0, leb-true _ _ w); count = refl; room = omega (arith, q.1) })))
    (λ u. tt))

-- and its form
form_ok : (v form b : ℕ) (bs : List ℕ) → Of (λ p. kept_form p.kept ≡ form) (part_at v form b bs)
unfolding part_at
form_ok v form b bs =
    of_cond _ (eqb form 1) _ _
    (λ t. of_when _ (leb (b * (4 * v)) (length bs)) _ (λ u. of_then (λ c. Unit {0}) _ (cut (drop (b * (4 * v)) bs)) _ (some (cut (drop (b * (4 * v)) bs))) (λ c q. sym (eqb-true form 1 t))))
    (λ t. of_cond _ (eqb form 2) _ _
    (λ u. of_then (λ c. Unit {0}) _ (cut bs) _ (some (cut bs)) (λ c q. of_when _ (leb (length c.piece) 512) _ (λ w. sym (eqb-true form 2 u))))
    (λ u. tt))
  where
    some : (o : Option Cut) → Of (λ c. Unit {0}) o
    some None = tt
    some (Some c) = tt

-- with the rules of what stands behind it
pub record OkParted (tail : Bool) (v form b n : ℕ) (p : Parted) : Type 0 where
  pub part : OkPart v b n p
  pub formed : kept_form p.kept ≡ form
  pub tailed : tailed tail p.behind ≡ true

both : (P Q : Parted → Type 0) (o : Option Parted) → Of P o → Of Q o → Of (λ p. P p × Q p) o
both P Q None f g = tt
both P Q (Some p) f g = (f, g)

pub parted_ok : (tail : Bool) (v form b : ℕ) (bs : List ℕ) → v ≤ 8 → Of (OkParted tail v form b (length bs)) (parted tail v form b bs)
unfolding parted
parted_ok tail v form b bs h =
    of_then _ _ (part_at v form b bs) _ (both _ _ (part_at v form b bs) (part_ok v form b bs h) (form_ok v form b bs)) (λ p q. of_when _ (tailed tail p.behind) _ (λ t. record { part = q.0; formed = q.1; tailed = t }))

-- what is written reads back
part_back : (v : ℕ) (k : Kept) (xs : List ℕ) → v ≤ 8 → Sound v k → part_at v (kept_form k) (kept_count k) (kept_bytes v k ++ xs) ≡ Some (record { kept = k; behind = xs })
unfolding part_at
part_back v (dumped rows outer) xs h (k, l) =
    let e = append_assoc (rows_bytes v rows) outer xs in
    let n = length_rows v rows h k in
    let le : length rows * (4 * v) ≤ length ((rows_bytes v rows ++ outer) ++ xs) = simp length-append (omega arith) in
    let d : drop (length rows * (4 * v)) ((rows_bytes v rows ++ outer) ++ xs) ≡ outer ++ xs = ap (drop (length rows * (4 * v))) e ∙ drop_at (rows_bytes v rows) (outer ++ xs) _ n in
    when_so _ _ (le-leb _ _ le)
    ∙ then_so _ _ (record { piece = outer; behind = xs }) (ap cut d ∙ cut_back outer xs l)
    ∙ ap (λ (b : List ℕ). Some (record { kept = dumped (rows_of v (length rows) b) outer; behind = xs })) e
    ∙ ap (λ (r : List Row). Some (record { kept = dumped r outer; behind = xs })) (rows_back v rows (outer ++ xs) h k)
part_back v (owed b contract) xs h (k, l) =
    then_so _ _ (record { piece = contract; behind = xs }) (cut_back contract xs k) ∙ when_so _ _ (le-leb _ _ l)

pub parted_back : (tail : Bool) (v : ℕ) (k : Kept) (xs : List ℕ) → v ≤ 8 → Sound v k → tailed tail xs ≡ true → parted tail v (kept_form k) (kept_count k) (kept_bytes v k ++ xs) ≡ Some (record { kept = k; behind = xs })
unfolding parted
parted_back tail v k xs h s t = then_so _ _ (record { kept = k; behind = xs }) (part_back v k xs h s) ∙ when_so _ _ t

-- a block of at most 16 rows adds at most 512 bytes to the outer record
pub kept_short : (v : ℕ) (k : Kept) → v ≤ 8 → kept_count k ≤ 16 → Sound v k → length (kept_bytes v k) ≤ 512 + length (kept_record k)
kept_short v (dumped rows outer) h c s = simp length-append (omega (arith, rows_short v rows h))
kept_short v (owed count contract) h c s = omega arith

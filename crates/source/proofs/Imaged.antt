-- Images mean the rows in their bytes. Assumes nothing.
use Rattle.std.proofs.Common.{◌≡◌, ℕ, zero, suc, ◌+◌, ◌-◌, ◌*◌, ◌<◌, ◌≤◌, min, eqb, leb, List, length, get_or, take, drop, Some, Decides, sym, refl, ap, ◌∙◌, ⊎_elim, mul-le-mul_right, suc-mul, zero-mul, arith, length-drop}
use Rattle.std.proofs.lemmas.Bool.Decides.{Decides-and, Decides-eqb, Decides-like}
use Rattle.std.proofs.lemmas.Bool.{cond-true, cond-false, cases_Bool, le-leb}
use Rattle.std.proofs.lemmas.List.{drop-drop, get_or-drop, take_all}
use Rattle.std.proofs.lemmas.Option.{slice_get-get_or}
use Rattle.std.specs.List.{slice_get}
use Rattle.codec.specs.declared.row.Row.{Row}
use Rattle.codec.specs.Rows.{row_of, front_row, rows_of}
use Rattle.codec.proofs.Rows.{rows_wide}
use Rattle.source.specs.Table.{Sound, Table, table_of, no_rows}
use Rattle.source.specs.Images.{named_count, named_width, named_rows, TableImage, is_image, image_table}
use Rattle.source.proofs.Tables.{decides_leb, table_width, table_content, no_content, no_width}

decides_image : (bs : List ℕ) → Decides (is_image bs) (TableImage bs)
unfolding is_image
decides_image bs =
    Decides-like (is_image bs)
    (λ p. record { version = p.0; some = p.1.0; narrow = p.1.1.0; few = p.1.1.1.0; whole = p.1.1.1.1 })
    (λ h. (h.version, (h.some, (h.narrow, (h.few, h.whole)))))
    (Decides-and (eqb (get_or bs 0 0) 1) _ (Decides-eqb (get_or bs 0 0) 1) (Decides-and (leb 1 (named_width bs)) _ (decides_leb 1 (named_width bs))
    (Decides-and (leb (named_width bs) 8) _ (decides_leb (named_width bs) 8) (Decides-and (leb (named_count bs) 4096) _ (decides_leb (named_count bs) 4096)
    (Decides-eqb (length bs) (4 + named_count bs * (4 * named_width bs)))))))

pub length_rows_of : (w n : ℕ) (bs : List ℕ) → length (rows_of w n bs) ≡ n
length_rows_of w zero bs = refl
length_rows_of w (suc n) bs = ap suc (length_rows_of w n (drop (4 * w) bs))

get_or_rows_of : (w n : ℕ) (bs : List ℕ) (i : ℕ) (d : Row) → i < n → get_or (rows_of w n bs) i d ≡ row_of w (drop (i * (4 * w)) bs)
get_or_rows_of w zero bs i d h = absurd (omega arith)
get_or_rows_of w (suc n) bs zero d h = rw (zero-mul (4 * w)) refl
get_or_rows_of w (suc n) bs (suc i) d h =
    let e : 4 * w + i * (4 * w) ≡ suc i * (4 * w) = omega (arith, suc-mul i (4 * w)) in
    get_or_rows_of w n (drop (4 * w) bs) i d (omega arith)
    ∙ ap (row_of w) (drop-drop (i * (4 * w)) (4 * w) bs ∙ ap (λ m. drop m bs) e)

image_sound : (bs : List ℕ) → TableImage bs → Sound (named_width bs) (named_rows bs)
image_sound bs g = record {
  some = g.some;
  narrow = g.narrow;
  few = omega (arith, g.few, length_rows_of (named_width bs) (named_count bs) (drop 4 bs));
  wide = rows_wide (named_width bs) (named_count bs) (drop 4 bs) g.narrow;
}

meant : (bs : List ℕ) → TableImage bs → image_table bs ≡ table_of (named_width bs) (named_rows bs)
unfolding image_table
meant bs g = cond-true (is_image bs) (table_of (named_width bs) (named_rows bs)) (no_rows 1) ((decides_image bs).1 g)

-- bytes that break the rule mean a table without rows
unmeant : (bs : List ℕ) → (TableImage bs → ⊥) → image_table bs ≡ (no_rows 1)
unfolding image_table
unmeant bs h = cond-false (is_image bs) (table_of (named_width bs) (named_rows bs)) (no_rows 1) (⊎_elim (λ t. absurd (h ((decides_image bs).0 t))) (λ f. f) (cases_Bool (is_image bs)))

pub width_good : (bs : List ℕ) → TableImage bs → (image_table bs).width ≡ named_width bs
width_good bs g = ap (λ (t : Table). t.width) (meant bs g) ∙ table_width (named_width bs) (named_rows bs) g.some g.narrow

pub width_bad : (bs : List ℕ) → (TableImage bs → ⊥) → (image_table bs).width ≡ 1
width_bad bs h = ap (λ (t : Table). t.width) (unmeant bs h) ∙ no_width 1

pub rows_good : (bs : List ℕ) → TableImage bs → (image_table bs).content ≡ named_rows bs
rows_good bs g = ap (λ (t : Table). t.content) (meant bs g) ∙ table_content (named_width bs) (named_rows bs) (image_sound bs g)

pub count_good : (bs : List ℕ) → TableImage bs → length (image_table bs).content ≡ named_count bs
count_good bs g = ap length (rows_good bs g) ∙ length_rows_of (named_width bs) (named_count bs) (drop 4 bs)

pub count_bad : (bs : List ℕ) → (TableImage bs → ⊥) → length (image_table bs).content ≡ 0
count_bad bs h = ap (λ (t : Table). length t.content) (unmeant bs h) ∙ ap length (no_content 1)

-- row i, where there is one
pub row_good : (bs : List ℕ) (i w : ℕ) (d : Row) → TableImage bs → i < named_count bs → w ≡ named_width bs
    → get_or (image_table bs).content i d ≡ row_of w (drop (4 + i * (4 * w)) bs)
row_good bs i w d g h e =
    ap (λ l. get_or l i d) (rows_good bs g) ∙ get_or_rows_of (named_width bs) (named_count bs) (drop 4 bs) i d h
    ∙ ap (row_of (named_width bs)) (drop-drop (i * (4 * named_width bs)) 4 bs) ∙ ap (λ v. row_of v (drop (4 + i * (4 * v)) bs)) (sym e)

-- its place lies within the image
pub row_place : (bs : List ℕ) (i n w : ℕ) → TableImage bs → n ≡ named_count bs → w ≡ named_width bs → i < n → 4 + i * (4 * w) + 4 * w ≤ length bs
row_place bs i n w g e f h =
    let k : n * (4 * w) ≡ named_count bs * (4 * named_width bs) = ap (λ m. m * (4 * w)) e ∙ ap (λ m. named_count bs * (4 * m)) f in
    let m : suc i * (4 * w) ≤ n * (4 * w) = mul-le-mul_right (4 * w) h in
    omega (arith, suc-mul i (4 * w), g.whole)

pub count_is : (bs : List ℕ) → named_count bs ≡ get_or bs 1 0 * 256 + get_or bs 2 0
count_is bs = simp get_or-drop

-- row i as the code reads it, at its place
pub row_read : (bs : List ℕ) (i w : ℕ) → TableImage bs → i < named_count bs → w ≡ named_width bs
    → front_row (min 8 w) (take (length bs - (4 + i * (4 * w))) (drop (4 + i * (4 * w)) bs)) ≡ slice_get (image_table bs).content i
row_read bs i w g h e =
    let at = 4 + i * (4 * w) in
    let d = row_of w bs in
    let rows = (image_table bs).content in
    let place = row_place bs i (named_count bs) w g refl e h in
    let v : min 8 w ≡ w = omega (arith, g.narrow, e) in
    let n : i < length rows = omega (arith, h, count_good bs g) in
    ap (front_row (min 8 w)) (take_all (length bs - at) (drop at bs) (omega (arith, length-drop at bs)))
    ∙ ap (λ m. front_row m (drop at bs)) v
    ∙ cond-true (leb (4 * w) (length (drop at bs))) _ _ (le-leb (4 * w) (length (drop at bs)) (omega (arith, length-drop at bs, place)))
    ∙ ap Some (sym (row_good bs i w d g h e)) ∙ sym (slice_get-get_or rows i d n)

-- Rows of a width, read and written. Assumes nothing.
use Rattle.std.proofs.Common.{◌≡◌, ℕ, zero, suc, ◌+◌, ◌-◌, ◌*◌, ◌/◌, ◌<◌, ◌≤◌, Bool, true, false, ◌&&◌, eqb, ltb, List, [], ◌∷◌, ◌++◌, length, get_or, take, drop, set, replicate, ℤ, pos, negsuc, Decides, sym, refl, ap, ◌∙◌, ⊎_elim, append_assoc, arith, length-append, length-drop, length-take, w32, SFits, to_z}
use lib.ListN.{length-replicate}
use lib.Signed.{mag}
use mir.Val.{sel}
use Rattle.std.specs.List.{AllByRecursion}
use Rattle.std.specs.Simd.{first_chunks}
use Rattle.std.proofs.ByRecursion.{All-get_or, All-append, Decides-by_and}
use Rattle.std.proofs.lemmas.List.{set_at, take_at, drop_at, drop-drop, get_or-take, take-append-drop, get_or_past, get_or-drop, length-take-le}
use Rattle.std.proofs.lemmas.Bool.{ltb-true, ltb-false, lt-ltb, eqb-true, eq-eqb, cases_lt}
use Rattle.std.proofs.lemmas.Bool.Decides.{Decides-and, Decides-eqb, Decides-like}
use Rattle.codec.specs.declared.row.Row.{Row}
use Rattle.codec.specs.Bytes.{of4, cell_of, cells_of, cells_bytes}
use Rattle.codec.specs.Rows.{cell_at, Wide, fits, fit, is_zero, blank, wide, row_bytes, row_of, rows_of}
use Rattle.codec.specs.Layouts.{Byte}
use Rattle.codec.proofs.Laws.{cells_of_more, length_cells_of, cells_back, length_cells_bytes, bytes_back}

decides_fits : (z : ℤ) → Decides (fits z) (SFits w32 z)
decides_fits z = ((λ e. record { sfits = ltb-true (mag z) 2147483648 e }), λ f. lt-ltb (mag z) 2147483648 f.sfits)

decides_zero : (z : ℤ) → Decides (is_zero z) (z ≡ pos 0)
decides_zero (pos n) = ((λ e. ap pos (eqb-true n 0 e)), λ e. eq-eqb n 0 (let q : n ≡ 0 = cc in q))
decides_zero (negsuc n) = ((λ e. absurd (let z : ◌≡◌ {A = ℕ} 0 1 = cc in omega arith)), λ e. absurd (let z : ◌≡◌ {A = ℕ} 0 1 = cc in omega arith))

-- the test of a row's width decides it
pub decides_wide : (w : ℕ) (r : Row) → Decides (wide w r) (Wide w r)
unfolding wide
decides_wide w r =
    Decides-like (wide w r)
    (λ p. record { eight = p.0; cells = p.1.0; zeros = p.1.1 })
    (λ h. (h.eight, (h.cells, h.zeros)))
    (Decides-and (eqb (length r.cells) 8) (fit r.cells && blank (drop w r.cells)) (Decides-eqb (length r.cells) 8)
    (Decides-and (fit r.cells) (blank (drop w r.cells))
    (Decides-by_and fits (SFits w32) fit decides_fits refl (λ _ _. refl) r.cells)
    (Decides-by_and is_zero (λ z. z ≡ pos 0) blank decides_zero refl (λ _ _. refl) (drop w r.cells))))

zero_fits : SFits w32 (pos 0)
zero_fits = record { sfits = omega arith }

-- each cell of a row has 32 bits
pub cell_fits : (w : ℕ) (r : Row) (i : ℕ) → Wide w r → SFits w32 (cell_at r i)
cell_fits w r i h =
    ⊎_elim (λ lt. All-get_or (SFits w32) r.cells i (pos 0) lt h.cells) (λ le. rw (get_or_past r.cells i (pos 0) le) zero_fits) (cases_lt i (length r.cells))

-- and behind the width each is 0
pub zero_behind : (w : ℕ) (r : Row) (i : ℕ) → w ≤ i → Wide w r → cell_at r i ≡ pos 0
zero_behind w r i le h =
    ⊎_elim
    (λ (lt : i < length r.cells). let e : get_or (drop w r.cells) (i - w) (pos 0) ≡ get_or r.cells i (pos 0) = get_or-drop w r.cells (i - w) (pos 0) ∙ ap (λ n. get_or r.cells n (pos 0)) (omega arith) in
    sym e ∙ All-get_or (λ z. z ≡ pos 0) (drop w r.cells) (i - w) (pos 0) (rw (length-drop w r.cells) (omega arith)) h.zeros)
    (λ ge. get_or_past r.cells i (pos 0) ge)
    (cases_lt i (length r.cells))

picked : (b : Bool) (n : ℕ) → ltb n 2147483648 ≡ b → SFits w32 (sel b (pos n) (negsuc (4294967296 - suc n)))
picked true n e = record { sfits = ltb-true n 2147483648 e }
picked false n e = record { sfits = omega (arith, ltb-false n 2147483648 e) }

-- bits read as signed are in range, however many there are
pub to_z_fits : (n : ℕ) → SFits w32 (to_z w32 n)
to_z_fits n = picked (ltb n 2147483648) n refl

cells_fit : (n : ℕ) (bs : List ℕ) → AllByRecursion (SFits w32) (cells_of n bs)
cells_fit zero bs = tt
cells_fit (suc n) bs = (to_z_fits (of4 bs), cells_fit n (drop 4 bs))

zeros_fit : (n : ℕ) → AllByRecursion (SFits w32) (replicate n (pos 0))
zeros_fit zero = tt
zeros_fit (suc n) = (zero_fits, zeros_fit n)

zeros_zero : (n : ℕ) → AllByRecursion (λ z. z ≡ pos 0) (replicate n (pos 0))
zeros_zero zero = tt
zeros_zero (suc n) = (refl, zeros_zero n)

-- a row from bytes is of its width
pub row_wide : (w : ℕ) (bs : List ℕ) → w ≤ 8 → Wide w (row_of w bs)
row_wide w bs h = record {
  eight = simp (length-append, length_cells_of, length-replicate) (omega arith);
  cells = All-append (SFits w32) (cells_of w bs) (replicate (8 - w) (pos 0)) (cells_fit w bs) (zeros_fit (8 - w));
  zeros = rw (drop_at (cells_of w bs) (replicate (8 - w) (pos 0)) w (length_cells_of w bs)) (zeros_zero (8 - w));
}

pub rows_wide : (w n : ℕ) (bs : List ℕ) → w ≤ 8 → AllByRecursion (Wide w) (rows_of w n bs)
rows_wide w zero bs h = tt
rows_wide w (suc n) bs h = (row_wide w bs h, rows_wide w n (drop (4 * w) bs) h)

-- the cells of bytes in fours
front_cell : (bs : List ℕ) → cell_of (take 4 bs) ≡ cell_of bs
front_cell [] = refl
front_cell (a ∷ []) = refl
front_cell (a ∷ b ∷ []) = refl
front_cell (a ∷ b ∷ c ∷ []) = refl
front_cell (a ∷ b ∷ c ∷ d ∷ bs) = refl

four_cell : (k i : ℕ) (bs : List ℕ) → i < k → cell_of (get_or (first_chunks 4 k bs) i []) ≡ cell_of (drop (4 * i) bs)
four_cell zero i bs h = absurd (omega arith)
four_cell (suc k) zero bs h = front_cell bs ∙ (let e : 0 ≡ 4 * 0 = omega arith in ap (λ m. cell_of (drop m bs)) e)
four_cell (suc k) (suc i) bs h = four_cell k i (drop 4 bs) (omega arith) ∙ ap cell_of (drop-drop (4 * i) 4 bs) ∙ (let e : 4 + 4 * i ≡ 4 * suc i = omega arith in ap (λ m. cell_of (drop m bs)) e)

pub cell_in_fours : (bs : List ℕ) (fours : List (List ℕ)) (n i : ℕ) → fours ≡ first_chunks 4 (length bs / 4) bs → 4 * n ≤ length bs → i < length (take n fours) → cell_of (get_or (take n fours) i []) ≡ cell_of (drop (4 * i) bs)
cell_in_fours bs fours n i e h lt =
    let l : i < n = omega (arith, lt, length-take n fours) in
    ap cell_of (get_or-take n fours i [] l) ∙ ap (λ (xs : List (List ℕ)). cell_of (get_or xs i [])) e ∙ four_cell (length bs / 4) i bs (omega arith)

-- one cell more read
pub row_more : (n : ℕ) (bs : List ℕ) → n < 8 → set (row_of n bs).cells n (cell_of (drop (4 * n) bs)) ≡ (row_of (n + 1) bs).cells
row_more n bs h =
    let k : 8 - n ≡ suc (8 - (n + 1)) = omega arith in
    ap (λ m. set (cells_of n bs ++ replicate m (pos 0)) n (cell_of (drop (4 * n) bs))) k
    ∙ set_at (cells_of n bs) (pos 0) (replicate (8 - (n + 1)) (pos 0)) (cell_of (drop (4 * n) bs)) n (length_cells_of n bs)
    ∙ sym (append_assoc (cells_of n bs) (cell_of (drop (4 * n) bs) ∷ []) (replicate (8 - (n + 1)) (pos 0)))
    ∙ ap (λ l. l ++ replicate (8 - (n + 1)) (pos 0)) (sym (cells_of_more n bs))

all_zero : (zs : List ℤ) → AllByRecursion (λ z. z ≡ pos 0) zs → zs ≡ replicate (length zs) (pos 0)
all_zero [] h = refl
all_zero (z ∷ zs) (e, h) = ap (λ x. x ∷ zs) e ∙ ap (λ l. pos 0 ∷ l) (all_zero zs h)

front_fits : (n : ℕ) (zs : List ℤ) → AllByRecursion (SFits w32) zs → AllByRecursion (SFits w32) (take n zs)
front_fits zero zs h = tt
front_fits (suc n) [] h = tt
front_fits (suc n) (z ∷ zs) (f, h) = (f, front_fits n zs h)

-- a row reads back
pub row_back : (w : ℕ) (r : Row) (behind : List ℕ) → w ≤ 8 → Wide w r → row_of w (row_bytes w r ++ behind) ≡ r
row_back w r behind le h =
    let l : length (take w r.cells) ≡ w = length-take-le w r.cells (rw h.eight le) in
    let c : cells_of w (row_bytes w r ++ behind) ≡ take w r.cells =
    ap (λ n. cells_of n (row_bytes w r ++ behind)) (sym l) ∙ cells_back (take w r.cells) behind (front_fits w r.cells h.cells) in
    let n : length (drop w r.cells) ≡ 8 - w = length-drop w r.cells ∙ ap (λ m. m - w) h.eight in
    let z : drop w r.cells ≡ replicate (8 - w) (pos 0) = all_zero (drop w r.cells) h.zeros ∙ ap (λ m. replicate m (pos 0)) n in
    ap (λ zs. record { cells = zs }) (ap (λ l. l ++ replicate (8 - w) (pos 0)) c ∙ ap (λ l. take w r.cells ++ l) (sym z) ∙ take-append-drop w r.cells)

-- bytes that are cells are written back
pub cells_bytes_back : (n : ℕ) (bs : List ℕ) → AllByRecursion Byte bs → length bs ≡ 4 * n → cells_bytes (cells_of n bs) ≡ bs
cells_bytes_back zero [] h e = refl
cells_bytes_back zero (a ∷ bs) h e = absurd (omega arith)
cells_bytes_back (suc n) [] h e = absurd (omega arith)
cells_bytes_back (suc n) (a ∷ []) h e = absurd (omega arith)
cells_bytes_back (suc n) (a ∷ b ∷ []) h e = absurd (omega arith)
cells_bytes_back (suc n) (a ∷ b ∷ c ∷ []) h e = absurd (omega arith)
cells_bytes_back (suc n) (a ∷ b ∷ c ∷ d ∷ bs) (p, (q, (r, (s, h)))) e =
    ap (λ l. l ++ cells_bytes (cells_of n bs)) (bytes_back a b c d p q r s) ∙ ap (λ l. a ∷ b ∷ c ∷ d ∷ l) (cells_bytes_back n bs h (omega arith))

pub row_bytes_back : (w : ℕ) (bs : List ℕ) → AllByRecursion Byte bs → length bs ≡ 4 * w → w ≤ 8 → row_bytes w (row_of w bs) ≡ bs
row_bytes_back w bs h e le =
    ap cells_bytes (take_at (cells_of w bs) (replicate (8 - w) (pos 0)) w (length_cells_of w bs)) ∙ cells_bytes_back w bs h e

pub row_bytes_length : (w : ℕ) (r : Row) → length r.cells ≡ 8 → w ≤ 8 → length (row_bytes w r) ≡ 4 * w
row_bytes_length w r e le = length_cells_bytes (take w r.cells) ∙ ap (λ n. 4 * n) (length-take-le w r.cells (rw e le))

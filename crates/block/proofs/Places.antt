-- Bytes written one behind the other, and rows as bytes. Assumes nothing.
use Rattle.std.proofs.Common.{◌≡◌, ℕ, zero, suc, ◌+◌, ◌-◌, ◌*◌, ◌^◌, ◌<◌, ◌≤◌, min, List, [], ◌∷◌, ◌++◌, length, get_or, take, drop, Some, None, Ok, Err, sym, refl, ap, ◌∙◌, append_assoc, append-nil, suc-mul, mul-le-mul, zero-mul, arith, length-append, length-drop, length-take}
use borrow.Rule.Slice.PartMut.{put_mid}
use Rattle.std.specs.List.{AllByRecursion}
use Rattle.std.proofs.lemmas.List.{drop-drop, drop_at, drop_all, take_more}
use Rattle.std.proofs.lemmas.Bool.{le-leb, cond-true}
use Rattle.refusal.specs.declared.Refusal.{Refusal}
use Rattle.codec.specs.declared.row.Row.{Row}
use Rattle.codec.specs.Bytes.{overwrite}
use Rattle.codec.specs.Rows.{Wide, row_bytes, row_of, front_row, rows_of}
use Rattle.codec.specs.Written.{Wrote}
use Rattle.codec.proofs.Laws.{length_overwrite, overwrite_more, overwrite_none, length_cells_bytes}
use Rattle.codec.proofs.Rows.{row_back, row_bytes_length}
use Rattle.block.specs.declared.writer.Writer.{Writer}
use Rattle.block.specs.Places.{Puts, Put, rows_bytes}

-- what a call wrote to the front of the part from a place on
pub put_mid_is : (at : ℕ) (xs ys : List ℕ) → put_mid at (length xs - at) xs ys ≡ take at xs ++ ys
put_mid_is at xs ys =
    let e : drop (length xs - at) (drop at xs) ≡ [] = drop_all (length xs - at) (drop at xs) (simp length-drop (omega arith)) in
    ap (λ l. take at xs ++ (ys ++ l)) e ∙ ap (λ l. take at xs ++ l) (append-nil ys)

pub puts_ok : (at : ℕ) (bs xs ys : List ℕ) (n behind : ℕ) → length xs < 2 ^ 64 → behind ≡ min (at + n) 18446744073709551615 → Wrote bs (drop at xs) ys (Ok n) → Puts at bs xs (put_mid at (length xs - at) xs ys) behind
puts_ok at bs xs ys n behind f e (a, b, c) = λ k. (omega arith, put_mid_is at xs ys ∙ ap (λ l. take at xs ++ l) (c ∙ ap (λ l. bs ++ l) (drop-drop (length bs) at xs)))

pub puts_err : (at : ℕ) (bs xs ys new : List ℕ) (e : Refusal) (behind : ℕ) → Wrote bs (drop at xs) ys (Err e) → Puts at bs xs new behind
puts_err at bs xs ys new e behind (a, b, c) = λ k. absurd (omega (arith, length-drop at xs))

-- nothing, one part behind another, and the same bytes under another name
pub put_none : (w : Writer) → Put [] w w
put_none w = λ k. (omega arith, sym (overwrite_none w.place w.buffer.now))

pub put_more : (bs cs : List ℕ) (w m r : Writer) → Put bs w m → Put cs m r → Put (bs ++ cs) w r
put_more bs cs w m r f g = λ h.
    let old = w.buffer.now in
    let s = length-append bs cs in
    let p = f (omega arith) in
    let p0 = p.0 in
    let l : length m.buffer.now ≡ length old = ap length p.1 ∙ length_overwrite w.place bs old (omega arith) in
    let q = g (omega arith) in
    let q0 = q.0 in
    (omega arith, q.1 ∙ ap (overwrite m.place cs) p.1 ∙ overwrite_more w.place bs cs old m.place (omega arith) p0)

pub put_as : (bs cs : List ℕ) (w r : Writer) → bs ≡ cs → Put bs w r → Put cs w r
put_as bs cs w r e f = rw (sym e) f

-- rows as bytes
pub rows_push : (w : ℕ) (rs : List Row) (r : Row) → rows_bytes w (rs ++ (r ∷ [])) ≡ rows_bytes w rs ++ row_bytes w r
rows_push w [] r = append-nil (row_bytes w r)
rows_push w (x ∷ rs) r = ap (λ l. row_bytes w x ++ l) (rows_push w rs r) ∙ sym (append_assoc (row_bytes w x) (rows_bytes w rs) (row_bytes w r))

pub row_short : (w : ℕ) (r : Row) → w ≤ 8 → length (row_bytes w r) ≤ 32
row_short w r h = omega (arith, length_cells_bytes (take w r.cells), length-take w r.cells)

pub rows_short : (w : ℕ) (rs : List Row) → w ≤ 8 → length (rows_bytes w rs) ≤ 32 * length rs
rows_short w [] h = omega arith
rows_short w (r ∷ rs) h = simp length-append (omega (arith, rows_short w rs h, row_short w r h))

suc_times : (m n : ℕ) → suc m * n ≡ n + m * n
suc_times m n = omega (arith, suc-mul m n)

pub length_rows : (w : ℕ) (rs : List Row) → w ≤ 8 → AllByRecursion (Wide w) rs → length (rows_bytes w rs) ≡ length rs * (4 * w)
length_rows w [] h k = sym (zero-mul (4 * w))
length_rows w (r ∷ rs) h (k, ks) =
    length-append (row_bytes w r) (rows_bytes w rs) ∙ ap (λ n. n + length (rows_bytes w rs)) (row_bytes_length w r k.eight h) ∙ ap (λ n. 4 * w + n) (length_rows w rs h ks) ∙ sym (suc_times (length rs) (4 * w))

pub rows_back : (w : ℕ) (rs : List Row) (behind : List ℕ) → w ≤ 8 → AllByRecursion (Wide w) rs → rows_of w (length rs) (rows_bytes w rs ++ behind) ≡ rs
rows_back w [] behind h k = refl
rows_back w (r ∷ rs) behind h (k, ks) =
    let e = append_assoc (row_bytes w r) (rows_bytes w rs) behind in
    let d : drop (4 * w) ((row_bytes w r ++ rows_bytes w rs) ++ behind) ≡ rows_bytes w rs ++ behind = ap (drop (4 * w)) e ∙ drop_at (row_bytes w r) (rows_bytes w rs ++ behind) (4 * w) (row_bytes_length w r k.eight h) in
    ap (λ (b : List ℕ). row_of w b ∷ rows_of w (length rs) (drop (4 * w) ((row_bytes w r ++ rows_bytes w rs) ++ behind))) e
    ∙ ap (λ (x : Row). x ∷ rows_of w (length rs) (drop (4 * w) ((row_bytes w r ++ rows_bytes w rs) ++ behind))) (row_back w r (rows_bytes w rs ++ behind) h k)
    ∙ ap (λ (b : List ℕ). r ∷ rows_of w (length rs) b) d ∙ ap (λ (l : List Row). r ∷ l) (rows_back w rs behind h ks)

pub length_rows_of : (w n : ℕ) (bs : List ℕ) → length (rows_of w n bs) ≡ n
length_rows_of w zero bs = refl
length_rows_of w (suc n) bs = ap suc (length_rows_of w n (drop (4 * w) bs))

-- one row more read, of those that are left
pub read_more : (w k n count : ℕ) (rows new all : List Row) (row : Row) (left rest : List ℕ) → length rows < count → k ≡ w → front_row w left ≡ Some row → new ≡ rows ++ row ∷ [] → rest ≡ drop (4 * k) left → length rows + n ≡ count → n * (4 * w) ≤ length left → all ≡ rows ++ rows_of w n left
    → (m : ℕ) × (length new + m ≡ count) × (m * (4 * w) ≤ length rest) × (all ≡ new ++ rows_of w m rest)
read_more w k zero count rows new all row left rest lt e f g h a b i = absurd (omega arith)
read_more w k (suc n) count rows new all row left rest lt e f g h a b i =
    let s = suc-mul n (4 * w) in
    let l : 4 * w ≤ length left = omega arith in
    let r : row_of w left ≡ row = let t = sym (cond-true _ (Some (row_of w left)) None (le-leb _ _ l)) ∙ f in cc in
    let d : rest ≡ drop (4 * w) left = h ∙ ap (λ (j : ℕ). drop (4 * j) left) e in
    let c : length new ≡ length rows + 1 = simp length-append at (ap length g) in
    (n, omega arith, omega (arith, ap length d, length-drop (4 * w) left), i ∙ ap (λ (x : Row). rows ++ (x ∷ rows_of w n (drop (4 * w) left))) r ∙ sym (append_assoc rows (row ∷ []) (rows_of w n (drop (4 * w) left))) ∙ ap (λ (l : List Row). l ++ rows_of w n (drop (4 * w) left)) (sym g) ∙ ap (λ (l : List ℕ). new ++ rows_of w n l) (sym d))

-- at most 16 rows of at most eight cells
pub rows_few : (a b : ℕ) → a ≤ 16 → b ≤ 8 → a * (4 * b) ≤ 512
rows_few a b h k = let l : 4 * b ≤ 32 = omega arith in mul-le-mul h l

-- one row more written
pub rows_more : (v i : ℕ) (rs : List Row) (d : Row) (w m r : Writer) → i < length rs → Put (rows_bytes v (take i rs)) w m → Put (row_bytes v (get_or rs i d)) m r → Put (rows_bytes v (take (i + 1) rs)) w r
rows_more v i rs d w m r lt f g =
    put_as _ _ w r (sym (rows_push v (take i rs) (get_or rs i d)) ∙ ap (rows_bytes v) (sym (take_more rs i d lt))) (put_more _ _ w m r f g)

-- a whole record written from the front of a buffer on
pub wrote_all : (bytes old new : List ℕ) (w r : Writer) (size : ℕ) → w.buffer.now ≡ old → w.place ≡ 0 → new ≡ r.buffer.now → Put bytes w r → size ≡ length bytes → size ≤ length old → Wrote bytes old new (Ok size)
wrote_all bytes old new w r size a b c f e h =
    let l : length w.buffer.now ≡ length old = ap length a in
    let z : 0 + length bytes ≡ length bytes = omega arith in
    (e, omega arith, c ∙ (f (omega arith)).1 ∙ ap (λ (n : ℕ). overwrite n bytes w.buffer.now) b ∙ ap (overwrite 0 bytes) a ∙ ap (λ (n : ℕ). bytes ++ drop n old) z)

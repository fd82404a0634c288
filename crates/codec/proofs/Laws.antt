-- Numbers, cells and bytes written over others. Assumes nothing.
use Rattle.std.proofs.Common.{◌≡◌, ℕ, zero, suc, ◌+◌, ◌-◌, ◌*◌, ◌/◌, ◌%◌, ◌^◌, ◌<◌, ◌≤◌, List, [], ◌∷◌, ◌++◌, length, get_or, take, drop, ℤ, pos, sym, refl, ap, ◌∙◌, append_assoc, add-zero, div-add-mod', add-one, arith, length-append, length-drop, length-take, w32, SFits, to_z, of_z, rules}
use borrow.Rule.Slice.PartMut.{put_mid}
use native.Mathlib.Nat.{div-div-eq-div-mul}
use Rattle.std.proofs.lemmas.Int.{to_z-of_z, of_z-to_z, ints}
use Rattle.std.proofs.lemmas.List.{drop-drop, take-append-drop, take_more, take_at, drop_at}
use Rattle.std.specs.List.{AllByRecursion}
use Rattle.codec.specs.Bytes.{be2, be4, of2, of4, cell_bytes, cell_of, cells_of, cells_bytes, overwrite}

of_z_lt : (z : ℤ) → SFits w32 z → of_z w32 z < 2 ^ 32
of_z_lt z h = search (rules, ints)

pub of2_be2 : (n : ℕ) → n < 2 ^ 16 → of2 (be2 n) ≡ n
of2_be2 n h = omega arith

pub be2_of2 : (a b : ℕ) → a < 256 → b < 256 → be2 (of2 (a ∷ b ∷ [])) ≡ a ∷ b ∷ []
be2_of2 a b p q =
    let e0 : (a * 256 + b) / 256 % 256 ≡ a = omega arith in
    let e1 : (a * 256 + b) % 256 ≡ b = omega arith in
    cc

sum4 : (n q r t a b c d : ℕ) → q * 256 + a ≡ n → r * 256 + b ≡ q → t * 256 + c ≡ r → d ≡ t → d * 16777216 + c * 65536 + b * 256 + a ≡ n
sum4 n q r t a b c d e f g h = omega arith

pub of4_be4 : (n : ℕ) → n < 2 ^ 32 → of4 (be4 n) ≡ n
of4_be4 n h =
    let e2 : n / 256 / 256 ≡ n / 65536 = div-div-eq-div-mul n 256 256 in
    let e3 : n / 65536 / 256 ≡ n / 16777216 = div-div-eq-div-mul n 65536 256 in
    let s : n / 16777216 < 256 = omega arith in
    let m : n / 16777216 % 256 ≡ n / 16777216 = omega arith in
    let d1 : n / 256 * 256 + n % 256 ≡ n = div-add-mod' n 256 in
    let d2 : n / 256 / 256 * 256 + n / 256 % 256 ≡ n / 256 = div-add-mod' (n / 256) 256 in
    let d3 : n / 65536 / 256 * 256 + n / 65536 % 256 ≡ n / 65536 = div-add-mod' (n / 65536) 256 in
    sum4 n (n / 256) (n / 65536) (n / 16777216) (n % 256) (n / 256 % 256) (n / 65536 % 256) (n / 16777216 % 256)
    d1 (rw e2 at d2) (rw e3 at d3) m

pub be4_of4 : (a b c d : ℕ) → a < 256 → b < 256 → c < 256 → d < 256
    → be4 (of4 (a ∷ b ∷ c ∷ d ∷ [])) ≡ a ∷ b ∷ c ∷ d ∷ []
be4_of4 a b c d p q r s =
    let e0 : (a * 16777216 + b * 65536 + c * 256 + d) / 16777216 % 256 ≡ a = omega arith in
    let e1 : (a * 16777216 + b * 65536 + c * 256 + d) / 65536 % 256 ≡ b = omega arith in
    let e2 : (a * 16777216 + b * 65536 + c * 256 + d) / 256 % 256 ≡ c = omega arith in
    let e3 : (a * 16777216 + b * 65536 + c * 256 + d) % 256 ≡ d = omega arith in
    cc

pub put_part : (at n : ℕ) (xs ys bs : List ℕ) → ys ≡ bs → length bs ≡ n
    → put_mid at ((at + n) - at) xs ys ≡ overwrite at bs xs
put_part at n xs ys bs e f =
    let k : at + n - at ≡ length bs = omega arith in
    ap (λ l. take at xs ++ l)
    (ap (λ l. l ++ drop (at + n - at) (drop at xs)) e
    ∙ ap (λ l. bs ++ l) (drop-drop (at + n - at) at xs ∙ ap (λ m. drop (at + m) xs) k))

pub length_overwrite : (at : ℕ) (bs xs : List ℕ) → at + length bs ≤ length xs → length (overwrite at bs xs) ≡ length xs
length_overwrite at bs xs h = simp (length-append, length-take, length-drop) (omega arith)

pub take_overwrite : (at : ℕ) (bs xs : List ℕ) (n : ℕ) → at ≤ length xs → n ≡ at + length bs → take n (overwrite at bs xs) ≡ take at xs ++ bs
take_overwrite at bs xs n h e =
    let l : length (take at xs ++ bs) ≡ n = simp (length-append, length-take) (omega arith) in
    ap (take n) (sym (append_assoc (take at xs) bs (drop (at + length bs) xs)))
    ∙ take_at (take at xs ++ bs) (drop (at + length bs) xs) n l

pub drop_overwrite : (at : ℕ) (bs xs : List ℕ) (n : ℕ) → at ≤ length xs → n ≡ at + length bs → drop n (overwrite at bs xs) ≡ drop n xs
drop_overwrite at bs xs n h e =
    let l : length (take at xs ++ bs) ≡ n = simp (length-append, length-take) (omega arith) in
    ap (drop n) (sym (append_assoc (take at xs) bs (drop (at + length bs) xs)))
    ∙ drop_at (take at xs ++ bs) (drop (at + length bs) xs) n l ∙ ap (λ m. drop m xs) (sym e)

-- two writes, the second right behind the first
pub overwrite_more : (at : ℕ) (cs bs xs : List ℕ) (n : ℕ) → at ≤ length xs → n ≡ at + length cs
    → overwrite n bs (overwrite at cs xs) ≡ overwrite at (cs ++ bs) xs
overwrite_more at cs bs xs n h e =
    let t : take n (overwrite at cs xs) ≡ take at xs ++ cs = take_overwrite at cs xs n h e in
    let d : drop (n + length bs) (overwrite at cs xs) ≡ drop (n + length bs) xs =
    sym (drop-drop (length bs) n (overwrite at cs xs)) ∙ ap (drop (length bs)) (drop_overwrite at cs xs n h e) ∙ drop-drop (length bs) n xs in
    let k : n + length bs ≡ at + length (cs ++ bs) = simp length-append (omega arith) in
    ap (λ l. l ++ (bs ++ drop (n + length bs) (overwrite at cs xs))) t
    ∙ ap (λ l. (take at xs ++ cs) ++ (bs ++ l)) (d ∙ ap (λ m. drop m xs) k)
    ∙ append_assoc (take at xs) cs (bs ++ drop (at + length (cs ++ bs)) xs)
    ∙ ap (λ l. take at xs ++ l) (sym (append_assoc cs bs (drop (at + length (cs ++ bs)) xs)))

pub cell_back : (z : ℤ) → SFits w32 z → cell_of (cell_bytes z) ≡ z
cell_back z h = ap (to_z w32) (of4_be4 (of_z w32 z) (of_z_lt z h)) ∙ to_z-of_z w32 z h

pub bytes_back : (a b c d : ℕ) → a < 256 → b < 256 → c < 256 → d < 256
    → cell_bytes (cell_of (a ∷ b ∷ c ∷ d ∷ [])) ≡ a ∷ b ∷ c ∷ d ∷ []
bytes_back a b c d p q r s =
    ap be4 (of_z-to_z w32 (a * 16777216 + b * 65536 + c * 256 + d) (omega arith)) ∙ be4_of4 a b c d p q r s

-- a cell more
pub cells_of_more : (n : ℕ) (bs : List ℕ) → cells_of (n + 1) bs ≡ cells_of n bs ++ cell_of (drop (4 * n) bs) ∷ []
cells_of_more zero bs = refl
cells_of_more (suc n) bs =
    let e : 4 + 4 * n ≡ 4 * suc n = omega arith in
    simp add-one (ap (λ l. cell_of bs ∷ l) (simp add-one at (cells_of_more n (drop 4 bs)) ∙ ap (λ b. cells_of n (drop 4 bs) ++ cell_of b ∷ []) (drop-drop (4 * n) 4 bs ∙ ap (λ m. drop m bs) e)))

pub length_cells_of : (n : ℕ) (bs : List ℕ) → length (cells_of n bs) ≡ n
length_cells_of zero bs = refl
length_cells_of (suc n) bs = ap suc (length_cells_of n (drop 4 bs))

pub cells_bytes_append : (xs ys : List ℤ) → cells_bytes (xs ++ ys) ≡ cells_bytes xs ++ cells_bytes ys
cells_bytes_append [] ys = refl
cells_bytes_append (x ∷ xs) ys =
    ap (λ l. cell_bytes x ++ l) (cells_bytes_append xs ys) ∙ sym (append_assoc (cell_bytes x) (cells_bytes xs) (cells_bytes ys))

pub length_cells_bytes : (xs : List ℤ) → length (cells_bytes xs) ≡ 4 * length xs
length_cells_bytes [] = refl
length_cells_bytes (x ∷ xs) = omega (arith, length_cells_bytes xs)

pub cells_back : (zs : List ℤ) (behind : List ℕ) → AllByRecursion (SFits w32) zs → cells_of (length zs) (cells_bytes zs ++ behind) ≡ zs
cells_back [] behind h = refl
cells_back (z ∷ zs) behind (f, h) =
    let e : cell_of (cell_bytes z ++ (cells_bytes zs ++ behind)) ≡ z = cell_back z f in
    ap (λ l. l ∷ cells_of (length zs) (cells_bytes zs ++ behind)) e ∙ ap (λ l. z ∷ l) (cells_back zs behind h)

pub overwrite_none : (at : ℕ) (xs : List ℕ) → overwrite at [] xs ≡ xs
overwrite_none at xs = ap (λ n. take at xs ++ drop n xs) (add-zero at) ∙ take-append-drop at xs

-- one cell more written behind i cells
pub write_more : (at i : ℕ) (xs : List ℤ) (bs : List ℕ) → i < length xs → at ≤ length bs
    → overwrite (at + 4 * i) (cell_bytes (get_or xs i (pos 0))) (overwrite at (cells_bytes (take i xs)) bs) ≡ overwrite at (cells_bytes (take (i + 1) xs)) bs
write_more at i xs bs h k =
    let l : length (cells_bytes (take i xs)) ≡ 4 * i = length_cells_bytes (take i xs) ∙ simp length-take (omega arith) in
    overwrite_more at (cells_bytes (take i xs)) (cell_bytes (get_or xs i (pos 0))) bs (at + 4 * i) k (omega arith)
    ∙ ap (λ c. overwrite at c bs)
    (sym (cells_bytes_append (take i xs) (get_or xs i (pos 0) ∷ []))
    ∙ ap cells_bytes (sym (take_more xs i (pos 0) h)))

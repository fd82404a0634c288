-- Ramps mean their rows. Assumes nothing.
use Rattle.std.proofs.Common.{◌≡◌, ℕ, zero, suc, ◌+◌, ◌-◌, ◌*◌, ◌^◌, ◌<◌, ◌≤◌, Bool, length, get_or, replicate, ◌∷◌, Some, ℤ, pos, negsuc, ◌+ℤ◌, ◌*ℤ◌, Decides, Ok, Err, Result, OkIff, is_ok, sym, refl, ap, ◌∙◌, subst, ⊎_elim, mul-le-mul_right, arith, w32, w64, SFits, to_z, of_z}
use lib.IntN.{zero-*ℤ}
use Rattle.std.specs.List.{range_with_len, AllByRecursion}
use Rattle.std.proofs.lemmas.List.FromFn.{length-map-range_with_len, get_or-map-range_with_len}
use Rattle.std.proofs.ByRecursion.{All-map, All-get_or}
use Rattle.std.proofs.lemmas.Int.{ints, to_z-of_z}
use Rattle.std.proofs.lemmas.Bool.Decides.{not_from_Decides}
use Rattle.std.proofs.lemmas.Bool.{cases_Bool}
use Rattle.std.proofs.lemmas.Option.{slice_get-get_or}
use Rattle.std.specs.List.{slice_get}
use Rattle.codec.specs.declared.row.Row.{Row}
use Rattle.codec.specs.Rows.{Wide}
use Rattle.source.specs.Table.{Sound, sound}
use Rattle.source.specs.Ramps.{ramp_cell, ramp_row, ramp_rows, RampFits, ramp_table}
use Rattle.source.proofs.Tables.{decides_sound, table_width, table_content, table_broken}

widened : (z : ℤ) → SFits w32 z → SFits w64 z
widened z f = omega (arith, ints, f.sfits)

-- the product of a 16-bit and a 32-bit number
pub product_fits : (i : ℕ) (s : ℤ) → i < 2 ^ 16 → SFits w32 s → SFits w64 (pos i *ℤ s)
product_fits i (pos s) h f =
    let m : i * s ≤ 65536 * s = mul-le-mul_right s (omega arith) in
    omega (arith, ints, f.sfits)
product_fits i (negsuc s) h f =
    let m : i * suc s ≤ 65536 * suc s = mul-le-mul_right (suc s) (omega arith) in
    omega (arith, ints, f.sfits)

pub sum_fits : (a s : ℤ) (i : ℕ) → i < 2 ^ 16 → SFits w32 a → SFits w32 s → SFits w64 (ramp_cell a s i)
unfolding ramp_cell
sum_fits a (pos s) i h f g =
    let m : i * s ≤ 65536 * s = mul-le-mul_right s (omega arith) in
    omega (arith, ints, f.sfits, g.sfits)
sum_fits a (negsuc s) i h f g =
    let m : i * suc s ≤ 65536 * suc s = mul-le-mul_right (suc s) (omega arith) in
    omega (arith, ints, f.sfits, g.sfits)

-- what lies between two that fit
between_fits : (a s : ℤ) (i m : ℕ) → i ≤ m → SFits w32 a → SFits w32 (ramp_cell a s m) → SFits w32 (ramp_cell a s i)
unfolding ramp_cell
between_fits a (pos s) i m h f g =
    let k : i * s ≤ m * s = mul-le-mul_right s h in
    omega (arith, ints, f.sfits, g.sfits)
between_fits a (negsuc s) i m h f g =
    let k : i * suc s ≤ m * suc s = mul-le-mul_right (suc s) h in
    omega (arith, ints, f.sfits, g.sfits)

first_cell : (a s : ℤ) → SFits w32 a → SFits w32 (ramp_cell a s 0)
unfolding ramp_cell
first_cell a s f = rw (zero-*ℤ s) (omega (arith, ints, f.sfits))

-- the last row decides
pub last_fits : (a s : ℤ) (n : ℕ) → SFits w32 a → RampFits a s n → SFits w32 (ramp_cell a s (n - 1))
last_fits a s zero f g = first_cell a s f
last_fits a s (suc n) f g = g.inside (suc n - 1) (omega arith)

pub by_last : (a s : ℤ) (n : ℕ) → SFits w32 a → n ≤ 4096 → SFits w32 (ramp_cell a s (n - 1)) → RampFits a s n
by_last a s n f few l = record { few = few; inside = λ i h. between_fits a s i (n - 1) (omega arith) f l }

zeros_fit : SFits w32 (pos 0)
zeros_fit = record { sfits = omega arith }

row_wide : (a s : ℤ) (i : ℕ) → i < 4096 → SFits w32 (ramp_cell a s i) → Wide 2 (ramp_row a s i)
unfolding ramp_row
row_wide a s i h f = record {
  eight = refl;
  cells = (record { sfits = omega arith }, (f, (zeros_fit, (zeros_fit, (zeros_fit, (zeros_fit, (zeros_fit, (zeros_fit, tt))))))));
  zeros = (refl, (refl, (refl, (refl, (refl, (refl, tt))))));
}

counted : (P : ℕ → Type 0) (a n m : ℕ) → a + n ≤ m → ((i : ℕ) → i < m → P i) → AllByRecursion P (range_with_len a n)
counted P a zero m h f = tt
counted P a (suc n) m h f = (f a (omega arith), counted P (a + 1) n m (omega arith) f)

pub length_ramp : (a s : ℤ) (n : ℕ) → length (ramp_rows a s n) ≡ n
unfolding ramp_rows
length_ramp a s n = length-map-range_with_len (ramp_row a s) 0 n

pub row_at : (a s : ℤ) (n i : ℕ) (d : Row) → i < n → get_or (ramp_rows a s n) i d ≡ ramp_row a s i
unfolding ramp_rows
row_at a s n i d h = get_or-map-range_with_len (ramp_row a s) 0 n i i d h (omega arith)

ramp_sound : (a s : ℤ) (n : ℕ) → RampFits a s n → Sound 2 (ramp_rows a s n)
unfolding ramp_rows
ramp_sound a s n g = record {
  some = omega arith;
  narrow = omega arith;
  few = omega (arith, g.few, length_ramp a s n);
  wide = All-map (Wide 2) (ramp_row a s) (range_with_len 0 n) (counted (λ i. Wide 2 (ramp_row a s i)) 0 n n (omega arith) (λ i h. row_wide a s i (omega (arith, g.few)) (g.inside i h)));
}

second : (a s : ℤ) (i : ℕ) → Wide 2 (ramp_row a s i) → SFits w32 (ramp_cell a s i)
unfolding ramp_row
second a s i h = h.cells.1.0

sound_ramp : (a s : ℤ) (n : ℕ) → Sound 2 (ramp_rows a s n) → RampFits a s n
sound_ramp a s n h = record {
  few = omega (arith, h.few, length_ramp a s n);
  inside = λ i lt. second a s i (rw (row_at a s n i (ramp_row a s i) lt) at (All-get_or (Wide 2) (ramp_rows a s n) i (ramp_row a s i) (rw (length_ramp a s n) lt) h.wide));
}

pub ramp_content : (a s : ℤ) (n : ℕ) → RampFits a s n → (ramp_table a s n).content ≡ ramp_rows a s n
ramp_content a s n g = table_content 2 (ramp_rows a s n) (ramp_sound a s n g)

pub ramp_length : (a s : ℤ) (n : ℕ) → RampFits a s n → length (ramp_table a s n).content ≡ n
ramp_length a s n g = ap length (ramp_content a s n g) ∙ length_ramp a s n

-- numbers that break the rule mean a table without rows
pub ramp_empty : (a s : ℤ) (n : ℕ) → (RampFits a s n → ⊥) → length (ramp_table a s n).content ≡ 0
ramp_empty a s n h = ap length (table_broken 2 (ramp_rows a s n) (λ g. h (sound_ramp a s n g)))

pub ramp_most : (a s : ℤ) (n : ℕ) → length (ramp_table a s n).content ≤ n
ramp_most a s n =
    ⊎_elim (λ t. omega (arith, ramp_length a s n (sound_ramp a s n ((decides_sound 2 (ramp_rows a s n)).0 t))))
    (λ f. omega (arith, ramp_empty a s n (λ g. not_from_Decides (sound 2 (ramp_rows a s n)) (decides_sound 2 (ramp_rows a s n)) f (ramp_sound a s n g))))
    (cases_Bool (sound 2 (ramp_rows a s n)))

pub ramp_at : (a s : ℤ) (n i : ℕ) (d : Row) → RampFits a s n → i < n → get_or (ramp_table a s n).content i d ≡ ramp_row a s i
ramp_at a s n i d g h = ap (λ l. get_or l i d) (ramp_content a s n g) ∙ row_at a s n i d h

pub ramp_width : (a s : ℤ) (n : ℕ) → (ramp_table a s n).width ≡ 2
ramp_width a s n = table_width 2 (ramp_rows a s n) (omega arith) (omega arith)

-- a cell as the code works it out, in 64 bits
pub cell_is : (a s x y z : ℤ) (i : ℕ) → i < 2 ^ 16 → SFits w32 a → SFits w32 s → x ≡ to_z w32 (of_z w32 a) → y ≡ pos i → z ≡ to_z w32 (of_z w32 s)
    → to_z w64 (of_z w64 (to_z w64 (of_z w64 x) +ℤ to_z w64 (of_z w64 (to_z w64 (of_z w64 y) *ℤ to_z w64 (of_z w64 z))))) ≡ ramp_cell a s i
unfolding ramp_cell
cell_is a s x y z i h f g p q r =
    let ex : x ≡ a = p ∙ to_z-of_z w32 a f in
    let ez : z ≡ s = r ∙ to_z-of_z w32 s g in
    let fa : SFits w64 a = widened a f in
    let fs : SFits w64 s = widened s g in
    let fi : to_z w64 (of_z w64 (pos i)) ≡ pos i = to_z-of_z w64 (pos i) (omega (arith, ints)) in
    let fp : SFits w64 (pos i *ℤ s) = product_fits i s h g in
    let ft : SFits w64 (a +ℤ (pos i *ℤ s)) = sum_fits a s i h f g in
    rw (ex, q, ez, fi, to_z-of_z w64 a fa, to_z-of_z w64 s fs, to_z-of_z w64 _ fp, to_z-of_z w64 _ ft) refl

by_result : {E : Type 0} {A B : Type 0} (v : ℤ) (b : Bool) (r : Result ℤ E) → OkIff r A v → b ≡ is_ok r → (A → B) → (B → A) → Decides b B
by_result v b (Ok x) h e f g = ((λ t. f h.0), λ t. e)
by_result v b (Err x) h e f g = ((λ t. absurd (let z : ◌≡◌ {A = ℕ} 0 1 = cc in omega arith)), λ t. absurd (h (g t)))

-- whether the last cell is one decides
pub fits_by_last : {E : Type 0} (a s x z v : ℤ) (n k : ℕ) (b : Bool) (r : Result ℤ E) → SFits w32 a → n ≤ 4096 → SFits w64 x → k ≡ n - 1 → x ≡ ramp_cell a s k → z ≡ to_z w64 (of_z w64 x) → OkIff r (SFits w32 z) v → b ≡ is_ok r
    → Decides b (RampFits a s n)
fits_by_last a s x z v n k b r f few fx p q t h e =
    let y : z ≡ ramp_cell a s (n - 1) = t ∙ to_z-of_z w64 x fx ∙ q ∙ ap (ramp_cell a s) p in
    let P : ℤ → Type 0 = λ m. SFits w32 m in
    by_result v b r h e (λ g. by_last a s n f few (subst P y g)) (λ g. subst P (sym y) (last_fits a s n f g))

-- row i as the code works it out
pub ramp_read : (a s x y : ℤ) (n i : ℕ) → RampFits a s n → i < n → i < 65536 → x ≡ pos i → SFits w64 y → y ≡ ramp_cell a s i
    → Some (record { cells = to_z w32 (of_z w32 x) ∷ to_z w32 (of_z w32 (to_z w64 (of_z w64 y))) ∷ replicate 6 (pos 0) }) ≡ slice_get (ramp_table a s n).content i
unfolding ramp_row
ramp_read a s x y n i g h k p fy q =
    let d : Row = ramp_row a s i in
    let fi : to_z w32 (of_z w32 x) ≡ pos i = ap (λ m. to_z w32 (of_z w32 m)) p ∙ to_z-of_z w32 (pos i) (omega (arith, ints)) in
    let fc : to_z w32 (of_z w32 (to_z w64 (of_z w64 y))) ≡ ramp_cell a s i =
    ap (λ m. to_z w32 (of_z w32 m)) (to_z-of_z w64 y fy ∙ q) ∙ to_z-of_z w32 (ramp_cell a s i) (g.inside i h) in
    ap (λ m. Some (record { cells = m ∷ to_z w32 (of_z w32 (to_z w64 (of_z w64 y))) ∷ replicate 6 (pos 0) })) fi
    ∙ ap (λ m. Some (record { cells = pos i ∷ m ∷ replicate 6 (pos 0) })) fc
    ∙ ap Some (sym (ramp_at a s n i d g h)) ∙ sym (slice_get-get_or (ramp_table a s n).content i d (omega (arith, h, ramp_length a s n g)))

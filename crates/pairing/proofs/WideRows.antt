-- The rows of a block join have the sum of the widths, at most eight. Assumes nothing.
use Rattle.std.proofs.Common.{◌≡◌, ℕ, zero, suc, ◌+◌, ◌-◌, ◌<◌, ◌≤◌, min, Bool, true, false, cond, List, [], ◌∷◌, ◌++◌, length, take, drop, ℤ, pos, sym, ap, ◌∙◌, subst, ⊎_elim, arith, length-append, length-take, w32, SFits}
use Rattle.std.specs.List.{AllByRecursion}
use Rattle.std.proofs.ByRecursion.{All-append, All-take, All-drop}
use Rattle.std.proofs.lemmas.List.{drop_all, drop_at, drop-drop, drop-take, length-take-le}
use Rattle.std.proofs.lemmas.Bool.{cases_lt}
use Rattle.codec.specs.declared.row.Row.{Row}
use Rattle.codec.specs.Rows.{Wide}
use Rattle.pairing.specs.Terms.{Terms, match}
use Rattle.pairing.specs.Pairs.{Pairing, row_joined, cut_up, blocks, matches, scanned, joined}

module _ (v w : ℕ) (a b : Row) (le : v ≤ 8) (x : Wide v a) (y : Wide w b) where
  abbrev cells : List ℤ
  cells = take v a.cells ++ b.cells

  front : length (take v a.cells) ≡ v
  front = length-take-le v a.cells (rw x.eight le)

  eight : length (take 8 cells) ≡ 8
  eight = let f = front in let e = y.eight in simp (length-take, length-append) (omega arith)

  abbrev Blank : List ℤ → Type 0
  Blank zs = AllByRecursion (λ z. z ≡ pos 0) zs

  narrow : v + w ≤ 8 → Blank (drop (min 8 (v + w)) (take 8 cells))
  narrow h =
      let n : min 8 (v + w) ≡ v + w = omega arith in
      let m : 8 ≡ v + w + (8 - (v + w)) = omega arith in
      let d : drop (v + w) cells ≡ drop w b.cells = sym (drop-drop w v cells) ∙ ap (drop w) (drop_at (take v a.cells) b.cells v front) in
      let e : drop (min 8 (v + w)) (take 8 cells) ≡ take (8 - (v + w)) (drop w b.cells) =
      ap (λ i. drop i (take 8 cells)) n ∙ ap (λ i. drop (v + w) (take i cells)) m ∙ drop-take (v + w) (8 - (v + w)) cells ∙ ap (take (8 - (v + w))) d in
      subst Blank (sym e) (All-take (λ z. z ≡ pos 0) (8 - (v + w)) (drop w b.cells) y.zeros)

  broad : 8 < v + w → Blank (drop (min 8 (v + w)) (take 8 cells))
  broad h = subst Blank (sym (drop_all (min 8 (v + w)) (take 8 cells) (let e = eight in omega arith))) tt

  wide : Wide (min 8 (v + w)) (row_joined v a b)
  unfolding row_joined
  wide = record {
    eight = eight;
    cells = All-take (SFits w32) 8 cells (All-append (SFits w32) (take v a.cells) b.cells (All-take (SFits w32) v a.cells x.cells) y.cells);
    zeros = ⊎_elim broad narrow (cases_lt 8 (v + w));
  }

pub joined_row_wide : (v w : ℕ) (a b : Row) → v ≤ 8 → Wide v a → Wide w b → Wide (min 8 (v + w)) (row_joined v a b)
joined_row_wide = wide

module _ (v w : ℕ) (r : Terms) (le : v ≤ 8) where
  abbrev p : Pairing
  p = record { terms = r; width = v }

  abbrev Rows : List Row → Type 0
  Rows rows = AllByRecursion (Wide (min 8 (v + w))) rows

  matched : (bs : List Row) (x : Row) → AllByRecursion (Wide v) bs → Wide w x → Rows (matches p bs x)
  unfolding matches
  matched [] x h k = tt
  matched (b ∷ bs) x (h, hs) k = by (match r b x) (matched bs x hs k)
    where
      by : (t : Bool) → Rows (matches p bs x) → Rows (cond t (row_joined v b x ∷ matches p bs x) (matches p bs x))
      by true l = (wide v w b x le h k, l)
      by false l = l

  over : (bs xs : List Row) → AllByRecursion (Wide v) bs → AllByRecursion (Wide w) xs → Rows (scanned p bs xs)
  unfolding scanned
  over bs [] h k = tt
  over bs (x ∷ xs) h (k, ks) = All-append (Wide (min 8 (v + w))) (matches p bs x) (scanned p bs xs) (matched bs x h k) (over bs xs h ks)

  each : (blocks : List (List Row)) (xs : List Row) → AllByRecursion (AllByRecursion (Wide v)) blocks → AllByRecursion (Wide w) xs → Rows (joined p blocks xs)
  unfolding joined
  each [] xs h k = tt
  each (bs ∷ others) xs (h, hs) k = All-append (Wide (min 8 (v + w))) (scanned p bs xs) (joined p others xs) (over bs xs h k) (each others xs hs k)

  cut : (n size : ℕ) (rows : List Row) → AllByRecursion (Wide v) rows → AllByRecursion (AllByRecursion (Wide v)) (cut_up n size rows)
  unfolding cut_up
  cut zero size rows h = tt
  cut (suc n) size [] h = tt
  cut (suc n) size (x ∷ xs) h = (All-take (Wide v) size (x ∷ xs) h, cut n size (drop size (x ∷ xs)) (All-drop (Wide v) size (x ∷ xs) h))

pub matches_wide : (v w : ℕ) (r : Terms) → v ≤ 8 → (bs : List Row) (x : Row) → AllByRecursion (Wide v) bs → Wide w x → AllByRecursion (Wide (min 8 (v + w))) (matches (record { terms = r; width = v }) bs x)
matches_wide = matched

pub scanned_wide : (v w : ℕ) (r : Terms) → v ≤ 8 → (bs xs : List Row) → AllByRecursion (Wide v) bs → AllByRecursion (Wide w) xs → AllByRecursion (Wide (min 8 (v + w))) (scanned (record { terms = r; width = v }) bs xs)
scanned_wide = over

pub joined_wide : (v w : ℕ) (r : Terms) → v ≤ 8 → (size : ℕ) (outer inner : List Row) → AllByRecursion (Wide v) outer → AllByRecursion (Wide w) inner → AllByRecursion (Wide (min 8 (v + w))) (joined (record { terms = r; width = v }) (blocks size outer) inner)
joined_wide v w r le size outer inner h k = each v w r le (blocks size outer) inner (cut v w r le (length outer) size outer h) k

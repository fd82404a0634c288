-- What the code does with rows: a match, a joined row, and the first match. Assumes nothing.
use Rattle.std.proofs.Common.{◌≡◌, ℕ, zero, suc, ◌+◌, ◌-◌, ◌<◌, ◌≤◌, Bool, true, false, List, [], ◌∷◌, ◌++◌, length, get_or, take, drop, set, ℤ, pos, Some, None, Option, Decides, sym, ap, ◌∙◌, ⊎_elim, arith, length-drop, length-take}
use Rattle.std.proofs.lemmas.List.{get_or-take, get_or_append_left, get_or-append_right, length-take-le, take_more, take_more_set, at_drop_more, at_drop_all, get_or-drop}
use Rattle.std.proofs.lemmas.Bool.{cases_lt, cond-true, cond-false}
use Rattle.std.proofs.lemmas.Bool.Decides.{Decides-at}
use Rattle.codec.specs.declared.row.Row.{Row}
use Rattle.codec.specs.Bytes.{word_cell}
use Rattle.codec.specs.Rows.{cell_at}
use Rattle.pairing.specs.declared.pair.Hit.{Hit}
use Rattle.pairing.specs.Condition.{Joins, joins}
use Rattle.pairing.specs.Terms.{Terms, Match, match, MatchCell, match_cell}
use Rattle.pairing.specs.Pairs.{Pairing, row_joined, first}
use Rattle.pairing.proofs.Law.{decides_match}

-- the answer of the cells is that of the rows
pub matched : (t : Bool) (r : Terms) (a b : Row) (c : ℕ) (w x y : ℤ) → t ≡ joins c w x y → c ≡ r.condition → w ≡ word_cell r.band → x ≡ cell_at a r.left → y ≡ cell_at b r.right
    → (t ≡ match r a b) × Decides t (Match r a b)
unfolding match
matched t r a b c w x y e p q u v = let m : t ≡ match r a b = cc in (m, Decides-at t (match r a b) m (decides_match r a b))

-- the same by the inner row's cell
pub matched_cell : (t : Bool) (r : Terms) (a : Row) (c : ℕ) (w x y z : ℤ) → (t ≡ joins c w x z) × Decides t (Joins c w x z) → c ≡ r.condition → w ≡ word_cell r.band → x ≡ cell_at a r.left → z ≡ y
    → (t ≡ match_cell r a y) × Decides t (MatchCell r a y)
matched_cell t r a c w x y z e p q u v = rw (sym p, sym q, sym u, sym v) e

pub by_cell : (t : Bool) (r : Terms) (a b : Row) (y : ℤ) → y ≡ cell_at b r.right → match_cell r a y ≡ t → match r a b ≡ t
unfolding match
by_cell t r a b y e f = ap (match_cell r a) (sym e) ∙ f

pub matched_by : (t : Bool) (r : Terms) (a b : Row) (y : ℤ) → t ≡ match_cell r a y → y ≡ cell_at b r.right → (t ≡ match r a b) × Decides t (Match r a b)
matched_by t r a b y e v = let m : t ≡ match r a b = sym (by_cell t r a b y v (sym e)) in (m, Decides-at t (match r a b) m (decides_match r a b))

-- a joined row cell by cell: the outer cells within their width, behind them the inner cells, and one cell more
pub outer_cell : (w i : ℕ) (xs ys : List ℤ) (d : ℤ) → i < w → i < length xs → get_or (take w xs ++ ys) i d ≡ get_or xs i d
outer_cell w i xs ys d h k =
    let l : i < length (take w xs) = simp length-take (omega arith) in
    get_or_append_left (take w xs) ys d i l ∙ get_or-take w xs i d h

pub inner_cell : (w i : ℕ) (xs ys : List ℤ) (d : ℤ) → w ≤ i → w ≤ length xs → get_or (take w xs ++ ys) i d ≡ get_or ys (i - w) d
inner_cell w i xs ys d h k = get_or-append_right (take w xs) ys w i d (length-take-le w xs k) h

pub cell_more : (cells row : List ℤ) (i : ℕ) (v : ℤ) → i < length cells → i < length row → take i cells ≡ take i row → v ≡ get_or row i (pos 0) → take (i + 1) (set cells i v) ≡ take (i + 1) row
cell_more cells row i v h k e f =
    take_more_set cells i v h ∙ ap (λ l. l ++ v ∷ []) e ∙ ap (λ u. take i row ++ u ∷ []) f ∙ sym (take_more row i (pos 0) k)

module _ (p : Pairing) (rows : List Row) (x d : Row) where
  -- the rows from one place to another do not match
  abbrev pub Passed : ℕ → ℕ → Type 0
  Passed k i = (j : ℕ) → k ≤ j → j < i → match p.terms (get_or rows j d) x ≡ false

  abbrev from : ℕ → Option Hit
  from k = first p x k (drop k rows)

  passed : (n k i : ℕ) → k + n ≡ i → i ≤ length rows → Passed k i → from k ≡ from i
  unfolding first
  passed zero k i e h f = ap from (let o : k ≡ i = omega arith in o)
  passed (suc n) k i e h f = at_drop_more (first p x k) rows k d (omega arith) ∙ cond-false _ _ _ (f k (omega arith) (omega arith)) ∙ passed n (k + 1) i (omega arith) h (λ j l m. f j (omega arith) m)

  pub first_hit : (b : Row) (k i : ℕ) → k ≤ i → i < length rows → get_or rows i d ≡ b → match p.terms b x ≡ true → Passed k i → first p x k (drop k rows) ≡ Some (record { row = row_joined p.width b x; next = i + 1 })
  unfolding first
  first_hit b k i h l e t f = passed (i - k) k i (omega arith) (omega arith) f ∙ at_drop_more (first p x i) rows i d l ∙ rw e (cond-true _ _ _ t)

  pub first_none : (k : ℕ) → Passed k (length rows) → first p x k (drop k rows) ≡ None
  unfolding first
  first_none k f = ⊎_elim within (λ l. at_drop_all (first p x k) rows k l) (cases_lt k (length rows))
    where
      within : k < length rows → from k ≡ None
      within l = passed (length rows - k) k (length rows) (omega arith) (omega arith) f ∙ at_drop_all (first p x (length rows)) rows (length rows) (omega arith)

  -- the same of the rows from a place on
  abbrev Missed : ℕ → List Row → Type 0
  Missed i part = (j : ℕ) → j < i → match p.terms (get_or part j d) x ≡ false

  passed_part : (part : List Row) (k i : ℕ) → part ≡ drop k rows → Missed i part → Passed k (k + i)
  passed_part part k i e f j l m =
      let n : k + (j - k) ≡ j = omega arith in
      ap (λ (b : Row). match p.terms b x) (ap (λ (q : ℕ). get_or rows q d) (sym n) ∙ sym (get_or-drop k rows (j - k) d) ∙ ap (λ (l : List Row). get_or l (j - k) d) (sym e)) ∙ f (j - k) (omega arith)

  pub first_hit_part : (part : List Row) (b : Row) (k i : ℕ) → part ≡ drop k rows → i < length part → get_or part i d ≡ b → match p.terms b x ≡ true → Missed i part → first p x k (drop k rows) ≡ Some (record { row = row_joined p.width b x; next = k + i + 1 })
  first_hit_part part b k i e l g t f =
      let n : length part ≡ length rows - k = ap length e ∙ length-drop k rows in
      let h : get_or rows (k + i) d ≡ b = sym (get_or-drop k rows i d) ∙ ap (λ (l : List Row). get_or l i d) (sym e) ∙ g in
      first_hit b k (k + i) (omega arith) (omega arith) h t (passed_part part k i e f)

  pub first_none_part : (part : List Row) (k : ℕ) → part ≡ drop k rows → Missed (length part) part → first p x k (drop k rows) ≡ None
  first_none_part part k e f =
      let n : length part ≡ length rows - k = ap length e ∙ length-drop k rows in
      first_none k (λ j l m. passed_part part k (length part) e f j l (omega arith))

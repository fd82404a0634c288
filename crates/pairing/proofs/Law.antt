-- The rows of a block join are the join of its outer and inner rows, and the test of a match decides it. Assumes nothing.
use Rattle.std.proofs.Common.{◌≡◌, ℕ, zero, suc, ◌<◌, ◌≤◌, Bool, true, false, cond, List, [], ◌∷◌, ◌++◌, map, length, take, drop, Decides, filter, sym, refl, ap, ◌∙◌, subst, ⊎_elim, arith, length-drop}
use Rattle.std.proofs.lemmas.List.Elements.{filter-append}
use Rattle.std.proofs.lemmas.List.{map-append, take_all, drop_all, take-append-drop, length-take-le}
use Rattle.std.proofs.lemmas.Bool.{cases_lt}
use Rattle.codec.specs.declared.row.Row.{Row}
use Rattle.codec.specs.Bytes.{word_cell}
use Rattle.codec.specs.Rows.{cell_at}
use Rattle.codec.proofs.Picks.{picked}
use Rattle.pairing.specs.Terms.{Terms, Match, match}
use Rattle.pairing.specs.Pairs.{Pairing, row_joined, cut_up, blocks, matches, scanned, joined}
use Rattle.pairing.specs.Joined.{Blocks, no_rows, last, more, Pair, pairs_of, pairs_over, all_pairs, Join}
use Rattle.pairing.proofs.Conditions.{decides_joins}
use Rattle.pairing.proofs.Pairs.{cut_none}

pub decides_match : (r : Terms) (a b : Row) → Decides (match r a b) (Match r a b)
unfolding match
decides_match r a b = decides_joins r.condition (word_cell r.band) (cell_at a r.left) (cell_at b r.right)

-- a block that holds all the rows is the last one; behind any other there are more
short : (n size : ℕ) (rows : List Row) → 1 ≤ length rows → length rows ≤ size → Blocks size rows (take size rows ∷ cut_up n size (drop size rows))
short n size rows h l =
    let e : take size rows ∷ cut_up n size (drop size rows) ≡ rows ∷ [] =
    ap (λ block. block ∷ cut_up n size (drop size rows)) (take_all size rows l) ∙ ap (λ rest. rows ∷ rest) (ap (cut_up n size) (drop_all size rows l) ∙ cut_none n size) in
    subst (λ (bs : List (List Row)). Blocks size rows bs) (sym e) (last h l)

longer : (size : ℕ) (rows : List Row) (others : List (List Row)) → size < length rows → Blocks size (drop size rows) others → Blocks size rows (take size rows ∷ others)
longer size rows others l h =
    let d = length-drop size rows in
    subst (λ (all : List Row). Blocks size all (take size rows ∷ others)) (take-append-drop size rows) (more (length-take-le size rows (omega arith)) (omega arith) h)

-- rows are cut into blocks
cut : (n size : ℕ) (rows : List Row) → 1 ≤ size → length rows ≤ n → Blocks size rows (cut_up n size rows)
unfolding cut_up
cut zero size [] h k = no_rows
cut zero size (x ∷ xs) h k = absurd (omega arith)
cut (suc n) size [] h k = no_rows
cut (suc n) size (x ∷ xs) h k =
    let d = length-drop size (x ∷ xs) in
    ⊎_elim (λ l. longer size (x ∷ xs) _ l (cut n size (drop size (x ∷ xs)) h (omega arith))) (λ l. short n size (x ∷ xs) (omega arith) l) (cases_lt size (length (x ∷ xs)))

module _ (r : Terms) (width : ℕ) where
  abbrev p : Pairing
  p = record { terms = r; width = width }

  abbrev test : Pair → Bool
  test q = match r q.outer q.inner

  abbrev made : Pair → Row
  made q = row_joined width q.outer q.inner

  -- the rows made of the pairs that match
  abbrev rows_of : List Pair → List Row
  rows_of qs = map made (filter test qs)

  rows_append : (xs ys : List Pair) → rows_of (xs ++ ys) ≡ rows_of xs ++ rows_of ys
  rows_append xs ys = ap (map made) (filter-append test xs ys) ∙ map-append made (filter test xs) (filter test ys)

  of_row : (block : List Row) (x : Row) → matches p block x ≡ rows_of (pairs_of block x)
  unfolding matches
  of_row [] x = refl
  of_row (b ∷ bs) x = by (match r b x) (of_row bs x)
    where
      by : (t : Bool) → matches p bs x ≡ rows_of (pairs_of bs x)
          → cond t (row_joined width b x ∷ matches p bs x) (matches p bs x) ≡ map made (cond t (record { outer = b; inner = x } ∷ filter test (pairs_of bs x)) (filter test (pairs_of bs x)))
      by true e = ap (λ rows. row_joined width b x ∷ rows) e
      by false e = e

  of_block : (block inner : List Row) → scanned p block inner ≡ rows_of (pairs_over block inner)
  unfolding scanned
  of_block block [] = refl
  of_block block (x ∷ xs) =
      ap (λ rows. rows ++ scanned p block xs) (of_row block x) ∙ ap (λ rows. rows_of (pairs_of block x) ++ rows) (of_block block xs)
      ∙ sym (rows_append (pairs_of block x) (pairs_over block xs))

  of_blocks : (blocks : List (List Row)) (inner : List Row) → joined p blocks inner ≡ rows_of (all_pairs blocks inner)
  unfolding joined
  of_blocks [] inner = refl
  of_blocks (block ∷ others) inner =
      ap (λ rows. rows ++ joined p others inner) (of_block block inner) ∙ ap (λ rows. rows_of (pairs_over block inner) ++ rows) (of_blocks others inner)
      ∙ sym (rows_append (pairs_over block inner) (all_pairs others inner))

pub join_law : (size : ℕ) (r : Terms) (width : ℕ) (outer inner : List Row) → 1 ≤ size → Join size r width outer inner (joined (record { terms = r; width = width }) (blocks size outer) inner)
join_law size r width outer inner h = record {
  blocks = blocks size outer;
  cut = cut (length outer) size outer h (omega arith);
  chosen = filter (test r width) (all_pairs (blocks size outer) inner);
  picked = picked (λ q. Match r q.outer q.inner) (test r width) (λ q. decides_match r q.outer q.inner) (all_pairs (blocks size outer) inner);
  made = of_blocks r width (blocks size outer) inner;
}

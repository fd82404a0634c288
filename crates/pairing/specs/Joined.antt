-- What a block join is, in the subject's words. Assumes nothing.
use Rattle.std.specs.Prelude.{◌≡◌, ℕ, ◌≤◌, List, [], ◌∷◌, ◌++◌, map, length}
use Rattle.codec.specs.declared.row.Row.{Row}
use Rattle.codec.specs.Picks.{Picked}
use Rattle.pairing.specs.Terms.{Terms, Match}
use Rattle.pairing.specs.Pairs.{row_joined}

-- the rows are cut into blocks, in order: each has as many rows as the size says, the last perhaps fewer
pub data Blocks (size : ℕ) : List Row → List (List Row) → Type 0 where
  no_rows : Blocks size [] []
  last : {block : List Row} → 1 ≤ length block → length block ≤ size → Blocks size block (block ∷ [])
  more : {block rest : List Row} {others : List (List Row)} → length block ≡ size → 1 ≤ length rest → Blocks size rest others → Blocks size (block ++ rest) (block ∷ others)

pub record Pair : Type 0 where
  pub outer : Row
  pub inner : Row

-- an inner row with each row of a block
abbrev pub pairs_of : List Row → Row → List Pair
pairs_of block x = map (λ b. record { outer = b; inner = x }) block

-- for each inner row, each row of a block
abbrev pub pairs_over : List Row → List Row → List Pair
pairs_over block [] = []
pairs_over block (x ∷ xs) = pairs_of block x ++ pairs_over block xs

-- for each block, each inner row, each row of the block
abbrev pub all_pairs : List (List Row) → List Row → List Pair
all_pairs [] inner = []
all_pairs (block ∷ others) inner = pairs_over block inner ++ all_pairs others inner

-- the rows are the join of outer and inner rows: the pairs that match, in the order of blocks, inner rows and block rows,
-- each as often as it stands there, outer cells then inner cells
pub record Join (size : ℕ) (r : Terms) (width : ℕ) (outer inner rows : List Row) : Type 0 where
  pub blocks : List (List Row)
  pub cut : Blocks size outer blocks
  pub chosen : List Pair
  pub picked : Picked (λ q. Match r q.outer q.inner) (all_pairs blocks inner) chosen
  pub made : rows ≡ map (λ q. row_joined width q.outer q.inner) chosen

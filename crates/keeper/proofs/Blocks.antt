-- A block taken from a child, in standing and in records. Assumes nothing.
use Rattle.std.proofs.Common.{◌≡◌, ℕ, ◌+◌, ◌*◌, ◌≤◌, min, Bool, List, ◌++◌, length, take, replicate, None, Option, ap, ◌∙◌, arith, length-append}
use Rattle.std.proofs.lemmas.List.{take-replicate}
use Rattle.std.specs.List.{AllByRecursion}
use Rattle.codec.specs.declared.row.Row.{Row}
use Rattle.codec.specs.Rows.{Wide}
use Rattle.operator.specs.Machine.{Machine}
use Rattle.block.specs.Places.{rows_bytes}
use Rattle.block.specs.Kept.{kept_bytes}
use Rattle.block.proofs.Places.{length_rows}
use Rattle.keeper.specs.Taking.{Taken, taken, way_back, kept_in}
use Rattle.keeper.specs.Outer.{part_bytes}

-- so many choices to go back, of at most 16
pub all_back : (n k : ℕ) → n ≡ min k 16 → k ≤ 16 → take n (replicate {A = ℕ} 16 2) ≡ replicate k 2
all_back n k e h = let j : n ≡ k = omega arith in take-replicate {X = ℕ} n 16 2 (omega arith) ∙ ap (λ (i : ℕ). replicate {A = ℕ} i 2) j

-- equal parts make equal blocks
pub taken_same : {S : Type 0} (b b' : List Row) (c c' : Option (List ℕ)) (x x' : S) → b ≡ b' → c ≡ c' → x ≡ x' → taken b c x ≡ taken b' c' x'
taken_same b b' c c' x x' p q r = cc

-- the block's part where the rows are dumped
pub part_dumped : {S : Type 0} (m : Machine S) (back : Bool) (choices : List ℕ) (t : Taken S) → way_back back t.contract ≡ None → part_bytes m back choices t ≡ rows_bytes (m.width t.child) t.rows ++ m.saved t.child choices
part_dumped m back choices t e = ap (λ (c : Option (List ℕ)). kept_bytes (m.width t.child) (kept_in t.rows c (m.saved t.child choices))) e

pub part_length : {S : Type 0} (m : Machine S) (back : Bool) (choices : List ℕ) (t : Taken S) → m.width t.child ≤ 8 → AllByRecursion (Wide (m.width t.child)) t.rows → way_back back t.contract ≡ None
    → length (part_bytes m back choices t) ≡ length t.rows * (4 * m.width t.child) + length (m.saved t.child choices)
part_length m back choices t le w e =
    ap length (part_dumped m back choices t e) ∙ length-append (rows_bytes (m.width t.child) t.rows) (m.saved t.child choices) ∙ ap (λ n. n + length (m.saved t.child choices)) (length_rows (m.width t.child) t.rows le w)

use Rattle.std.proofs.Common.{◌≡◌, ◌+◌, ◌-◌, ◌*◌, ◌≤◌, min, ◌++◌, length, ℕ}
use Rattle.codec.specs.Rows.{rows_of}
use Rattle.block.specs.Held.{block_rows}
use Rattle.block.proofs.rows.Block.read.Given as goal

abbrev pub invariant-loop-left : goal.invariant-loop-left
invariant-loop-left l = l.count * (4 * min 8 l.width) ≤ length l.bytes → l.count ≤ 16 →
    (n : ℕ) × (length (block_rows l.self) + n ≡ l.count) × (n * (4 * min 8 l.width) ≤ length l.left) × (rows_of (min 8 l.width) l.count l.bytes ≡ block_rows l.self ++ rows_of (min 8 l.width) n l.left)

abbrev pub decreases-loop-left : goal.decreases-loop-left
decreases-loop-left l = 16 - length (block_rows l.self)

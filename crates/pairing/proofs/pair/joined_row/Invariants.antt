use Rattle.std.proofs.Common.{◌≡◌, ◌++◌, length, take}
use Rattle.pairing.proofs.pair.joined_row.Given as goal

abbrev pub invariant-loop-i : goal.invariant-loop-i
invariant-loop-i l = (length l.cells ≡ 8) × (take l.i l.cells ≡ take l.i (take l.width l.outer.cells ++ l.inner.cells))

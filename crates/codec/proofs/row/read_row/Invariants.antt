use Rattle.std.proofs.Common.{◌≡◌}
use Rattle.codec.specs.Rows.{row_of}
use Rattle.codec.proofs.row.read_row.Given as goal

abbrev pub invariant-loop-i : goal.invariant-loop-i
invariant-loop-i l = l.cells ≡ (row_of l.i l.bytes).cells

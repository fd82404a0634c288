use Rattle.std.proofs.Common.{◌≡◌, take}
use Rattle.codec.specs.Bytes.{cells_bytes, overwrite}
use Rattle.codec.proofs.row.put_cells.Given as goal

abbrev pub invariant-loop-i : goal.invariant-loop-i
invariant-loop-i l = l.buffer ≡ overwrite 0 (cells_bytes (take l.i l.cells)) l.initial.buffer

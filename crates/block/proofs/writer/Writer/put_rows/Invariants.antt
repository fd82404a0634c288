use Rattle.std.proofs.Common.{min, take}
use Rattle.block.specs.Places.{Put, SameBuffer, rows_bytes}
use Rattle.block.proofs.writer.Writer.put_rows.Given as goal

abbrev pub invariant-loop-row : goal.invariant-loop-row
invariant-loop-row l = SameBuffer l.initial.self l.self × Put (rows_bytes (min 8 l.width) (take l.row-index l.rows)) l.initial.self l.self

use Rattle.std.proofs.Common.{min, length, sym, ap, arith}
use Rattle.block.proofs.Places.{read_more}
use Rattle.block.proofs.rows.Block.read.Goals as goal

pub loop-left-preserved : goal.loop-left-preserved
loop-left-preserved c = λ room few.
    let i = c.loop-left.invariant room few in
    let counted = i.1 in
    read_more (min 8 c.args.width) c.min-in-loop-left.result i.0 c.args.count _ _ _ c.in-Some.row c.loop-left.left.now c.bytes_from-left.result.now
    (omega (arith, ap length c.rows.ensures.is)) (omega (arith, ap length c.rows.ensures.is, c.min-in-loop-left.ensures)) (sym c.in-Some.ensures) (c.add.ensures.added (omega (arith, ap length c.rows.ensures.is, c.min-in-loop-left.ensures))) c.bytes_from-left.ensures counted i.2 i.3

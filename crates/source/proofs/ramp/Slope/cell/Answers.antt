use Rattle.std.proofs.Common.{arith, rules}
use Rattle.source.proofs.Ramped.{cell_is}
use Rattle.source.proofs.ramp.Slope.cell.Goals as goal

pub returns : goal.returns
returns c =
    let s = c.args.self in
    cell_is s.start s.step c.from.result c.from-2.result c.from-3.result c.args.i (omega arith) (search rules) (search rules) c.from.ensures c.from-2.ensures c.from-3.ensures

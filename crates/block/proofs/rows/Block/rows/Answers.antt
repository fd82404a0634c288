use Rattle.std.proofs.Common.{◌≡◌, length, arith, length-take, rules}
use Rattle.block.proofs.Parts.{take_up}
use Rattle.block.proofs.rows.Block.rows.Goals as goal

pub returns : goal.returns
returns c =
    let l : length c.args.self.now.rows ≡ 16 = search rules in
    record { is = take_up c.args.self.now.count c.min.result c.args.self.now.rows c.min.ensures; few = simp length-take (omega arith) }

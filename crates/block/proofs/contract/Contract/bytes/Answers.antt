use Rattle.std.proofs.Common.{◌≡◌, length, arith, length-take, rules}
use Rattle.block.proofs.Parts.{take_up}
use Rattle.block.proofs.contract.Contract.bytes.Goals as goal

pub returns : goal.returns
returns c =
    let l : length c.args.self.now.bytes ≡ 512 = search rules in
    record { is = take_up c.args.self.now.used c.min.result c.args.self.now.bytes c.min.ensures; few = simp length-take (omega arith) }

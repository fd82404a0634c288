use Rattle.std.proofs.Common.{◌∙◌}
use Rattle.std.proofs.lemmas.List.{take_rest}
use Rattle.block.proofs.Cuts.{dumped_torn, dumped_is}
use Rattle.block.proofs.part.dumped_part.Goals as goal

pub returns-in_err-outer-clause-is : goal.returns-in_err-outer-clause-is
returns-in_err-outer-clause-is c =
    let rest = c.in_ok-rest.ensures.lookup.0 in
    rw c.from_residual-in_err-outer.ensures (dumped_torn c.args.width c.args.count c.args.bytes.now _ rest.0 (rest.2 ∙ take_rest c.args.bytes.now _) c.in_err-outer.ensures)

pub returns-clause-is : goal.returns-clause-is
returns-clause-is c =
    let rest = c.in_ok-rest.ensures.lookup.0 in
    dumped_is c.args.width c.args.count c.args.bytes.now _ rest.0 (rest.2 ∙ take_rest c.args.bytes.now _) _ c.in_ok-outer.ensures

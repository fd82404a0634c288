use Rattle.std.proofs.Common.{rules}
use Rattle.filter.proofs.Picks.{picks}
use Rattle.filter.proofs.filter.Filter.new.Goals as goal

pub returns-clause-whole : goal.returns-clause-whole
returns-clause-whole g c =
    let k = c.args.wanted in
    picks (g.C.Operator.state c.args.child) k.cell k.condition k.constant (g.C.Operator.whole (g.C.Operator.state c.args.child)) (search rules)

use Rattle.std.proofs.Common.{arith}
use Rattle.operator.specs.Of.{of}
use Rattle.codec.proofs.Frames.{framed_length}
use Rattle.filter.specs.Filters.{good}
use Rattle.filter.proofs.filter.FilterOperator.size.Goals as goal

pub returns : goal.returns
returns g c = λ h.
    let m = g.C.Operator.machine in
    let s = g.C.Operator.state c.args.self.now.child in
    let cs = c.args.choices.now in
    let k = good m (of g.C.Operator) _ h in
    omega (arith, c.size.ensures k, g.met.C.Operator.laws.small s cs k, framed_length (m.saved s cs), k.few)

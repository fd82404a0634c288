use Rattle.std.proofs.Common.{arith}
use Rattle.plan.proofs.Told.{plan_length}
use Rattle.filter.proofs.filter.FilterOperator.plan_size.Goals as goal

pub returns : goal.returns
returns g c = λ h.
    let s = g.C.Operator.state c.args.self.now.child in
    omega (arith, c.plan_size.ensures (omega arith), plan_length _ _ _ (g.met.C.Operator.laws.planned s))

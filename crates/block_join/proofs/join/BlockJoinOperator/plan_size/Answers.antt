use Rattle.std.proofs.Common.{arith, length-append}
use Rattle.plan.proofs.Told.{plan_length}
use Rattle.block_join.proofs.join.BlockJoinOperator.plan_size.Goals as goal

pub returns : goal.returns
returns g c = λ h.
    let x = g.O.Operator.state c.args.self.now.outer.child in
    let y = g.I.Operator.state c.args.self.now.inner in
    omega (
      arith,
      c.plan_size.ensures (omega arith),
      c.plan_size-2.ensures (omega arith),
      plan_length _ _ _ (g.met.O.Operator.laws.planned x),
      plan_length _ _ _ (g.met.I.Operator.laws.planned y),
      length-append (g.O.Operator.machine.plan x) (g.I.Operator.machine.plan y),
      c.saturating_add.ensures,
      c.saturating_add-2.ensures,
    )

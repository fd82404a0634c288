use Rattle.std.proofs.Common.{ℕ, List, take, replicate, refl, ap, ◌∙◌, arith}
use Rattle.plan.proofs.Told.{plan_keepers}
use Rattle.block.specs.Held.{signed}
use Rattle.block.proofs.Parts.{signed_ok, signed_err}
use Rattle.keeper.proofs.Blocks.{all_back}
use Rattle.keeper.proofs.outer.OuterBlock.contract_now.Goals as goal

pub returns : goal.returns
returns g c = λ good.
    let o = g.O.Operator in
    let x = o.state c.args.self.now.child in
    let k = plan_keepers _ _ _ (g.met.O.Operator.laws.planned x) in
    let few = good.few in
    signed_ok (o.machine.saved x (take c.min-keepers.result (replicate {A = ℕ} 16 2))) (replicate {A = ℕ} 512 0) c.save.new.buffer _ c.save.result c.in_ok-used.used refl c.in_ok-used.ensures.value c.new.ensures (c.save.ensures good)
    ∙ ap (λ (cs : List ℕ). signed (o.machine.saved x cs)) (all_back c.min-keepers.result (o.machine.keepers x) (omega (arith, c.keepers.ensures, c.min-keepers.ensures)) (omega arith))

pub returns-in_err-used : goal.returns-in_err-used
returns-in_err-used g c = λ good.
    let o = g.O.Operator in
    let x = o.state c.args.self.now.child in
    let k = plan_keepers _ _ _ (g.met.O.Operator.laws.planned x) in
    let few = good.few in
    rw c.from_residual.ensures
    (signed_err (o.machine.saved x (take c.min-keepers.result (replicate {A = ℕ} 16 2))) (replicate {A = ℕ} 512 0) c.save.new.buffer c.save.result refl c.in_err-used.ensures.value (c.save.ensures good)
    ∙ ap (λ (cs : List ℕ). signed (o.machine.saved x cs)) (all_back c.min-keepers.result (o.machine.keepers x) (omega (arith, c.keepers.ensures, c.min-keepers.ensures)) (omega arith)))

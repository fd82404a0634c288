use Rattle.std.proofs.Common.{true, false, length, refl, ap, arith}
use Rattle.std.proofs.lemmas.Bool.{le-leb, lt-leb}
use Rattle.keeper.specs.Outer.{taken_of}
use Rattle.block_join.specs.Stages.{scanning}
use Rattle.block_join.specs.Code.{stage_of}
use Rattle.block_join.proofs.Steps.{added}
use Rattle.block_join.proofs.join.BlockJoinOperator.step.Goals as goal

pub returns-then-rows-block_size : goal.returns-then-rows-block_size
returns-then-rows-block_size g c = λ good.
    added g.O.Operator g.I.Operator c.args.self.now _ c.in-Filling-Row.row c.ask-answer.new.outer c.ask-answer.new.inner (taken_of g.O.Operator c.add.new.self) _ c.block_size.result scanning true c.in-Filling-Row.is-0 c.in-Filling-Row.is-1 c.ask-answer.ensures good c.add.ensures
    (ap length c.rows.ensures.is) c.block_size.ensures (le-leb c.block_size.result (length c.rows.result.now) (omega arith)) refl

pub returns-else-rows-block_size : goal.returns-else-rows-block_size
returns-else-rows-block_size g c = λ good.
    added g.O.Operator g.I.Operator c.args.self.now _ c.in-Filling-Row.row c.ask-answer.new.outer c.ask-answer.new.inner (taken_of g.O.Operator c.add.new.self) _ c.block_size.result (stage_of c.args.self.now.phase) false c.in-Filling-Row.is-0 c.in-Filling-Row.is-1 c.ask-answer.ensures good c.add.ensures
    (ap length c.rows.ensures.is) c.block_size.ensures (lt-leb c.block_size.result (length c.rows.result.now) (omega arith)) (ap stage_of c.in-Filling-Row.is-0)

use Rattle.std.proofs.Common.{sym, ap, ◌∙◌, arith}
use Rattle.filter.specs.Condition.{known}
use Rattle.filter.proofs.Conditions.{misfit, odd, flawless}
use Rattle.filter.proofs.condition.Criterion.check.Goals as goal

pub returns-then-from-width : goal.returns-then-from-width
returns-then-from-width c = let k = c.args.self in sym (misfit c.args.width k.cell k.condition c.args.at (omega arith))

pub returns-then-not-is_condition : goal.returns-then-not-is_condition
returns-then-not-is_condition c =
    let k = c.args.self in
    sym (odd c.args.width k.cell k.condition c.args.at (omega arith) (ap known (sym c.from-2.ensures) ∙ sym c.if-not-is_condition.ensures))

pub returns : goal.returns
returns c =
    let k = c.args.self in
    sym (flawless c.args.width k.cell k.condition c.args.at (omega arith) (ap known (sym c.from-2.ensures) ∙ sym c.if-not-is_condition.ensures))

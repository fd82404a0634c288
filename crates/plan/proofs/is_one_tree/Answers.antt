use Rattle.std.proofs.Common.{inl, inr, sym, ◌∙◌, arith}
use Rattle.plan.proofs.Told.{also, few_in_shape, told_end, told_nothing, told_full, told_turn}
use Rattle.plan.proofs.is_one_tree.Goals as goal
use Rattle.plan.proofs.is_one_tree.Goals.{then-operators_left-eq0-via-then-operators_left-eq0, then-operators_left-eq0-via-else-operators_left-eq0+then-shape-keepers_left}

pub returns-in_default : goal.returns-in_default
returns-in_default c =
    let l = c.loop-open in
    also _ c.args.bytes.now (sym (l.invariant.3 ∙ told_nothing l.operators_left l.«open» l.keepers_left l.rest.now c.loop-open-test.true c.in_default.ensures))

pub returns-then-operators_left-eq0 : goal.returns-then-operators_left-eq0
returns-then-operators_left-eq0 c =
    let l = c.loop-open in
    also _ c.args.bytes.now (sym (l.invariant.3 ∙ told_full l.operators_left l.«open» l.keepers_left l.rest.now c.in-Some.shape c.in-Some.behind.now c.loop-open-test.true c.in-Some.ensures
    (elim c.then-operators_left-eq0.branch [
      | then-operators_left-eq0-via-then-operators_left-eq0 w ↦ inl w.if-operators_left-eq0.true
      | then-operators_left-eq0-via-else-operators_left-eq0+then-shape-keepers_left w ↦ inr w.if-shape-keepers_left.true
    ])))

pub loop-open-preserved : goal.loop-open-preserved
loop-open-preserved c =
    let l = c.loop-open in (
      omega arith,
      omega arith,
      omega (arith, few_in_shape l.rest.now c.in-Some.shape c.in-Some.behind.now c.in-Some.ensures, c.loop-open-test.true, c.if-operators_left-eq0.false),
      l.invariant.3 ∙ told_turn l.operators_left l.«open» l.keepers_left l.rest.now c.in-Some.shape c.in-Some.behind.now c.loop-open-test.true c.in-Some.ensures (omega (arith, c.if-operators_left-eq0.false)) c.if-shape-keepers_left.false,
    )

pub returns : goal.returns
returns c =
    let l = c.loop-open in
    also _ c.args.bytes.now (c.is_empty.ensures ∙ sym (l.invariant.3 ∙ told_end l.operators_left l.«open» l.keepers_left l.rest.now (omega arith)))

use Rattle.std.proofs.Common.{min, arith}
use Rattle.block.specs.Kept.{form_number}
use Rattle.block.proofs.Cuts.{no_form, the_form, no_part, the_part}
use Rattle.block.proofs.part.part_of.Goals as goal

pub returns-in_err-form-clause-is : goal.returns-in_err-form-clause-is
returns-in_err-form-clause-is c =
    rw c.from_residual.ensures (no_form c.args.tail (min 8 c.args.width) c.args.head.form c.args.head.count c.args.bytes.now c.try_from.result c.try_from.ensures c.in_err-form.ensures.value)

pub returns-in_err-part-clause-is : goal.returns-in_err-part-clause-is
returns-in_err-part-clause-is c =
    rw c.from_residual-in_err-part.ensures (no_part c.args.tail c.min.result (min 8 c.args.width) (form_number c.in_ok-form.form) c.args.head.form c.from.result c.args.head.count c.args.bytes.now (omega (arith, c.min.ensures))
    (the_form c.args.head.form c.in_ok-form.form c.try_from.result c.try_from.ensures c.in_ok-form.ensures.value) c.from.ensures c.in_err-part.ensures.is)

pub returns-clause-is : goal.returns-clause-is
returns-clause-is c =
    the_part c.args.tail c.min.result (min 8 c.args.width) (form_number c.in_ok-form.form) c.args.head.form c.from.result c.args.head.count c.args.bytes.now (omega (arith, c.min.ensures))
    (the_form c.args.head.form c.in_ok-form.form c.try_from.result c.try_from.ensures c.in_ok-form.ensures.value) c.from.ensures c.in_ok-part.part c.is_tail.result c.then_some.result c.in_ok-part.ensures.is c.is_tail.ensures c.then_some.ensures

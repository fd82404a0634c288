use Rattle.std.proofs.Common.{sym, ◌∙◌, arith}
use Rattle.std.proofs.lemmas.Int.{to_z-of_z}
use Rattle.std.proofs.lemmas.Bool.Decides.{nat_tests}
use Rattle.codec.proofs.Cells.{eqb_of_z}
use Rattle.filter.specs.Condition.{holds}
use Rattle.filter.proofs.Conditions.{also, holds_equals, holds_below, holds_above}
use Rattle.filter.proofs.condition.passes.Goals as goal

pub returns-in-61 : goal.returns-in-61
returns-in-61 c = also _ _ _ _ (rw c.in-61.is (eqb_of_z _ _ c.ranges.cell c.ranges.constant ∙ sym (holds_equals c.args.cell c.args.constant)))

pub returns-in-60 : goal.returns-in-60
returns-in-60 c = also _ _ _ _ (rw (c.in-60.is, to_z-of_z _ _ c.ranges.cell, to_z-of_z _ _ c.ranges.constant) (sym (holds_below c.args.cell c.args.constant)))

pub returns-in-62 : goal.returns-in-62
returns-in-62 c = also _ _ _ _ (rw (c.in-62.is, to_z-of_z _ _ c.ranges.cell, to_z-of_z _ _ c.ranges.constant) (sym (holds_above c.args.cell c.args.constant)))

pub returns-in_default : goal.returns-in_default
unfolding holds
returns-in_default c = also _ _ _ _ (grind (arith, nat_tests))

use Rattle.std.proofs.Common.{arith}
use Rattle.std.proofs.lemmas.Bool.Decides.{nat_tests}
use Rattle.filter.specs.Condition.{known}
use Rattle.filter.proofs.condition.is_condition.Goals as goal

pub returns-in-61 : goal.returns-in-61
unfolding known
returns-in-61 c = grind (arith, nat_tests, c.in-61)

pub returns-in_default : goal.returns-in_default
unfolding known
returns-in_default c = grind (arith, nat_tests)

pub returns-in_default-2 : goal.returns-in_default-2
unfolding known
returns-in_default-2 c = grind (arith, nat_tests)

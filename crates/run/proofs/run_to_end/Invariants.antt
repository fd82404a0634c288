use Rattle.std.proofs.Common.{vec_items}
use Rattle.operator.specs.Of.{of}
use Rattle.run.proofs.Going.{Going}
use Rattle.run.proofs.run_to_end.Given as goal

abbrev pub invariant-steps : goal.invariant-steps
invariant-steps g l = Going g.O.Operator.machine (of g.O.Operator) (g.O.Operator.state l.initial.tree) (g.O.Operator.state l.tree) (vec_items l.rows) l.steps

abbrev pub decreases-steps : goal.decreases-steps
decreases-steps g l = g.O.Operator.togo (g.O.Operator.state l.tree)

use Rattle.std.proofs.Common.{[]}
use Rattle.operator.specs.Of.{of}
use Rattle.keeper.specs.Taking.{taken, fetch}
use Rattle.keeper.specs.Outer.{taken_of, Fetching}
use Rattle.keeper.proofs.outer.OuterBlock.fetch.Given as goal

abbrev pub invariant-loop-self : goal.invariant-loop-self
invariant-loop-self g l =
    Fetching g.O.Operator.machine (of g.O.Operator) (g.O.Operator.machine.begin (g.O.Operator.state l.initial.self.child))
    (fetch g.O.Operator.machine.next (g.O.Operator.togo (g.O.Operator.state l.initial.self.child)) l.count (taken [] (taken_of g.O.Operator l.initial.self).contract (g.O.Operator.state l.initial.self.child)))
    l.count (taken_of g.O.Operator l.self)

abbrev pub decreases-loop-self : goal.decreases-loop-self
decreases-loop-self g l = g.O.Operator.togo (g.O.Operator.state l.self.child)

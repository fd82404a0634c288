use Rattle.std.proofs.Common.{◌≡◌, ◌+◌, ◌*◌, ◌≤◌}
use Rattle.plan.specs.Plans.{trees_told, one_tree}
use Rattle.plan.proofs.is_one_tree.Given as goal

abbrev pub invariant-loop-open : goal.invariant-loop-open
invariant-loop-open l =
    (l.operators_left ≤ 16) × (l.keepers_left ≤ 6) × (l.«open» + 2 * l.operators_left ≤ 33)
    × (one_tree l.bytes ≡ trees_told l.operators_left l.«open» l.keepers_left l.rest)

abbrev pub decreases-loop-open : goal.decreases-loop-open
decreases-loop-open l = l.operators_left

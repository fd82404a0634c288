use Rattle.std.proofs.Common.{◌∙◌}
use Rattle.std.proofs.lemmas.Int.{to_z-of_z}
use Rattle.pairing.proofs.Conditions.{also}
use Rattle.pairing.specs.Condition.{joins}
use Rattle.pairing.proofs.condition.joins.Goals as goal

pub returns-in-126 : goal.returns-in-126
unfolding joins
returns-in-126 c = also _ _ _ _ _ (rw c.in-126.is (c.is_near.ensures ∙ rw (to_z-of_z _ _ c.ranges.band, to_z-of_z _ _ c.ranges.outer, to_z-of_z _ _ c.ranges.inner)))

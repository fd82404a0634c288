use Rattle.block.specs.Kept.{part_at}
use Rattle.block.proofs.part.part_at.Goals as goal

pub returns-in-Dumped-clause-is : goal.returns-in-Dumped-clause-is
unfolding part_at
returns-in-Dumped-clause-is c = rw (c.in-Dumped.is) (c.dumped_part.ensures.is)

pub returns-in-Owed-clause-is : goal.returns-in-Owed-clause-is
unfolding part_at
returns-in-Owed-clause-is c = rw (c.in-Owed.is) (c.owed_part.ensures.is)

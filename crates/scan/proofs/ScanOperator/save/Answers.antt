use Rattle.std.proofs.Common.{rules}
use Rattle.codec.specs.Frames.{framed}
use Rattle.scan.proofs.ScanOperator.save.Goals as goal

pub returns : goal.returns
unfolding framed
returns g c = search rules

use Rattle.std.proofs.Common.{refl}
use Rattle.codec.specs.Frames.{framed}
use Rattle.scan.proofs.ScanOperator.size.Goals as goal

pub returns : goal.returns
unfolding framed
returns g c = λ h. refl

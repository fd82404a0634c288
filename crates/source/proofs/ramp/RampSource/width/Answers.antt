use Rattle.std.proofs.Common.{sym}
use Rattle.source.proofs.Ramped.{ramp_width}
use Rattle.source.proofs.ramp.RampSource.width.Goals as goal

pub returns : goal.returns
returns c = let r = c.args.self.now.slope in sym (ramp_width r.start r.step r.count)

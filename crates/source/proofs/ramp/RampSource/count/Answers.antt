use Rattle.std.proofs.Common.{sym}
use Rattle.source.proofs.Ramped.{ramp_length}
use Rattle.source.proofs.ramp.RampSource.count.Goals as goal

pub returns : goal.returns
returns c = let r = c.args.self.now in sym (ramp_length r.slope.start r.slope.step r.slope.count r.rule)

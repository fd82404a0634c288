use Rattle.std.proofs.Common.{refl}
use Rattle.source.proofs.Ramped.{ramp_content}
use Rattle.source.proofs.ramp.Ramp.new.Goals as goal

pub returns-then-fits : goal.returns-then-fits
returns-then-fits c =
    let s = c.args.slope in
    let g = c.fits.ensures.0 c.if-fits.true in
    (g, refl, refl, refl, ramp_content s.start s.step s.count g)

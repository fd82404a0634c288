use Rattle.std.proofs.Common.{sym}
use Rattle.source.proofs.Imaged.{width_good}
use Rattle.source.proofs.image.ImageSource.width.Goals as goal

pub returns : goal.returns
returns c = let m = c.args.self.now in sym (width_good m.bytes.now m.rule)

use Rattle.std.proofs.Common.{sym, ◌∙◌}
use Rattle.source.proofs.Imaged.{count_good, count_is}
use Rattle.source.proofs.image.ImageSource.count.Goals as goal

pub returns : goal.returns
returns c = let m = c.args.self.now in c.from_be_bytes.ensures ∙ sym (count_is m.bytes.now) ∙ sym (count_good m.bytes.now m.rule)

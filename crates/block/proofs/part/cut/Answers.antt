use Rattle.block.proofs.Cuts.{cut_by}
use Rattle.block.proofs.part.cut.Goals as goal

pub returns : goal.returns
returns c = cut_by c.args.bytes.now c.named_length.result c.split_at_checked.result c.named_length.ensures c.split_at_checked.ensures.cases

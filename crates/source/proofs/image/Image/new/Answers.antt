use Rattle.std.proofs.Common.{refl}
use Rattle.source.proofs.Imaged.{width_good, rows_good}
use Rattle.source.proofs.image.Image.new.Goals as goal

pub returns-then-is_table_image : goal.returns-then-is_table_image
returns-then-is_table_image c =
    let g = c.is_table_image.ensures.0 c.if-is_table_image.true in
    (g, refl, width_good c.args.bytes.now g, rows_good c.args.bytes.now g)

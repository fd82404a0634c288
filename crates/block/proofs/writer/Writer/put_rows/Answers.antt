use Rattle.std.proofs.Common.{min, ap, arith, refl, ◌∙◌}
use Rattle.std.proofs.lemmas.List.{take_all}
use Rattle.block.specs.Places.{rows_bytes}
use Rattle.block.proofs.Places.{put_none, put_as, rows_more}
use Rattle.block.proofs.writer.Writer.put_rows.Goals as goal

pub loop-row-init : goal.loop-row-init
loop-row-init c = (refl, put_none c.args.self.now)

pub loop-row-preserved : goal.loop-row-preserved
loop-row-preserved c =
    let i = c.loop-row.invariant in
    (c.put_row.ensures.same_buffer ∙ i.0, rows_more (min 8 c.args.width) c.loop-row.row-index c.args.rows.now _ c.args.self.now c.loop-row.self c.put_row.new.self (omega arith) i.1 c.put_row.ensures.put)

pub returns-clause-put : goal.returns-clause-put
returns-clause-put c = put_as _ _ c.args.self.now c.loop-row.self (ap (rows_bytes (min 8 c.args.width)) (take_all c.loop-row.row-index c.args.rows.now (omega arith))) c.loop-row.invariant.1

use Rattle.std.proofs.Common.{◌*◌, drop, set, ap, ◌∙◌, arith, length-take, w32, SFits}
use Rattle.std.proofs.lemmas.Int.{to_z-of_z}
use Rattle.codec.specs.Bytes.{cell_of}
use Rattle.codec.proofs.Rows.{row_more, cell_in_fours}
use Rattle.codec.proofs.row.read_row.Goals as goal

pub loop-i-preserved : goal.loop-i-preserved
loop-i-preserved c =
    let f : SFits w32 c.from_be_bytes.result = record { sfits = c.from_be_bytes.type_inv } in
    let i = c.loop-i.i in
    let bs = c.args.bytes.now in
    let n = c.min-count.result in
    let read = c.from_be_bytes.ensures ∙ cell_in_fours bs c.as_chunks.result.0.now n i c.as_chunks.ensures.front c.if-bytes-count.false c.loop-i-test.true in
    ap (λ x. set c.loop-i.cells i x) (to_z-of_z w32 c.from_be_bytes.result f ∙ read) ∙ ap (λ l. set l i (cell_of (drop (4 * i) bs))) c.loop-i.invariant
    ∙ row_more i bs (omega (arith, c.min-count.ensures, c.loop-i-test.true, length-take n c.as_chunks.result.0.now))

use Rattle.std.proofs.Common.{◌*◌, get_or, take, pos, ap, ◌∙◌, arith, w32, SFits, rules}
use Rattle.std.proofs.lemmas.Int.{to_z-of_z}
use Rattle.codec.specs.Bytes.{overwrite, cell_bytes, cells_bytes}
use Rattle.codec.proofs.Laws.{write_more}
use Rattle.codec.proofs.row.put_cells.Goals as goal

pub loop-i-preserved : goal.loop-i-preserved
loop-i-preserved c =
    let xs = c.args.cells.now in
    let i = c.loop-i.i in
    let f : SFits w32 (get_or xs i (pos 0)) = search rules in
    c.put_cell.ensures
    ∙ ap (λ z. overwrite (4 * i) (cell_bytes z) c.loop-i.buffer) (to_z-of_z w32 (get_or xs i (pos 0)) f)
    ∙ ap (λ b. overwrite (4 * i) (cell_bytes (get_or xs i (pos 0))) b) c.loop-i.invariant
    ∙ ap (λ n. overwrite n (cell_bytes (get_or xs i (pos 0))) (overwrite 0 (cells_bytes (take i xs)) c.args.buffer.now)) (omega arith)
    ∙ write_more 0 i xs c.args.buffer.now (omega arith) (omega arith)

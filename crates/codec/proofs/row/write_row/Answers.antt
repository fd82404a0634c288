use Rattle.std.proofs.Common.{◌≡◌, ◌+◌, min, ◌++◌, length, drop, refl, ap, ◌∙◌, arith, length-take, rules}
use Rattle.codec.specs.Rows.{row_bytes}
use Rattle.codec.proofs.Rows.{row_bytes_length}
use Rattle.codec.proofs.row.write_row.Goals as goal

pub returns-then-buffer-size : goal.returns-then-buffer-size
returns-then-buffer-size c =
    let l : length c.args.row.now.cells ≡ 8 = search rules in
    (refl, omega (arith, c.min.ensures, length-take c.min.result c.args.row.now.cells, row_bytes_length (min 8 c.args.width) c.args.row.now l (omega arith)), refl)

pub returns : goal.returns
returns c =
    let l : length c.args.row.now.cells ≡ 8 = search rules in
    let n : c.min.result ≡ min 8 c.args.width = omega (arith, c.min.ensures) in
    let k = row_bytes_length (min 8 c.args.width) c.args.row.now l (omega arith) in
    let t = length-take c.min.result c.args.row.now.cells in
    let b = c.args.buffer.now in (
      omega (arith, n, k, t),
      omega (arith, n, k, t),
      c.put_cells.ensures ∙ ap (λ m. row_bytes m c.args.row.now ++ drop (0 + length (row_bytes m c.args.row.now)) b) n
          ∙ ap (λ m. row_bytes (min 8 c.args.width) c.args.row.now ++ drop m b) (omega arith),
    )

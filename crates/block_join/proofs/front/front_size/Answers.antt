use Rattle.std.proofs.Common.{◌≡◌, min, length, arith, length-append, rules}
use Rattle.codec.proofs.Rows.{row_bytes_length}
use Rattle.block_join.proofs.front.front_size.Goals as goal

pub returns-in-Matching : goal.returns-in-Matching
returns-in-Matching c = λ form count.
    let l : length c.in-Matching.held.cells ≡ 8 = search rules in
    let w = min 8 c.args.width in
    let n = row_bytes_length w c.in-Matching.held l (omega arith) in
    rw c.in-Matching.is (simp length-append (omega (arith, c.min.ensures)))

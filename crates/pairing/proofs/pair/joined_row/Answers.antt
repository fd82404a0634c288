use Rattle.std.proofs.Common.{◌≡◌, ◌<◌, ◌≤◌, List, ◌++◌, length, take, ℤ, pos, sym, ap, ◌∙◌, arith, length-append, length-set}
use Rattle.std.proofs.lemmas.List.{take_all}
use Rattle.std.proofs.lemmas.Int.{to_z-of_z}
use Rattle.codec.specs.declared.row.Row.{Row}
use Rattle.pairing.specs.Pairs.{row_joined}
use Rattle.pairing.proofs.Rows.{outer_cell, inner_cell, cell_more}
use Rattle.pairing.proofs.pair.joined_row.Goals as goal
use Rattle.pairing.proofs.pair.joined_row.Goals.{then-i-width, else-i-width}

pub loop-i-preserved : goal.loop-i-preserved
loop-i-preserved c =
    let xs = c.args.outer.now.cells in
    let ys = c.args.inner.now.cells in
    let row : List ℤ = take c.args.width xs ++ ys in
    let k : c.loop-i.i < length row = simp length-append (omega arith) in (
      length-set _ _ _ ∙ c.loop-i.invariant.0,
      cell_more c.loop-i.cells row c.loop-i.i _ (omega arith) k c.loop-i.invariant.1
          (elim c.if-i-width.branch [
            | then-i-width w ↦ let e = outer_cell c.args.width c.loop-i.i xs ys (pos 0) w.if-i-width.true (omega arith) in let f = w.cell-is in grind (arith, to_z-of_z)
            | else-i-width w ↦ let e = inner_cell c.args.width c.loop-i.i xs ys (pos 0) w.if-i-width.false (omega arith) in let f = w.cell-is in grind (arith, to_z-of_z)
          ]),
    )

pub returns : goal.returns
unfolding row_joined
returns c =
    let e : c.loop-i.i ≡ 8 = omega arith in
    let h : length c.loop-i.cells ≤ 8 = omega arith in
    let f : (List ℤ → Row) = λ l. record { cells = l } in
    ap f (sym (take_all 8 c.loop-i.cells h) ∙ (rw e at c.loop-i.invariant.1))

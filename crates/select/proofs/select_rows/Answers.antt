use Rattle.std.proofs.Common.{◌≡◌, vec_items, sym, arith, w32, SFits, rules}
use Rattle.select.proofs.Selected.{one_each, wanted, facts_of}
use Rattle.select.proofs.select_rows.Goals as goal

pub returns : goal.returns
returns g c =
    let tree = c.new-tree.result in
    let k = tree.wanted in
    let table = g.S.Source.table in
    let fit : SFits w32 k.constant = search rules in
    let ran = c.in_ok-rows.ensures in
    let t : table tree.child.source ≡ table c.args.source = let e = c.new-tree.ensures.parts.0 in let f = c.new.ensures.0 in cc in
    facts_of (table c.args.source) (table tree.child.source) c.args.wanted k c.width-width.result c.in_ok-rows.field-0.steps (vec_items c.in_ok-rows.field-0.rows)
    t c.new-tree.ensures.parts.1 (
      sym (c.in_ok-check.ensures (omega arith)),
      c.width-width.ensures,
      one_each (table tree.child.source) tree.child.position k.cell k.condition k.constant _ _ _ ran,
      wanted (table tree.child.source) tree.child.position k.cell k.condition k.constant _ _ _ ran fit,
    )

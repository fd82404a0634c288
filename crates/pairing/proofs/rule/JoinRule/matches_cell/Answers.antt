use Rattle.std.proofs.Common.{sym, ◌∙◌, w32, SFits, rules}
use Rattle.std.proofs.lemmas.Int.{to_z-of_z}
use Rattle.codec.proofs.Laws.{cell_back}
use Rattle.pairing.specs.Terms.{terms_of}
use Rattle.pairing.proofs.Rows.{matched_cell}
use Rattle.pairing.proofs.rule.JoinRule.matches_cell.Goals as goal

pub returns : goal.returns
returns c =
    let f : SFits w32 c.args.self.now.band = search rules in
    let l : SFits w32 c.cell-left.result = search rules in
    let r : SFits w32 c.args.right = search rules in
    matched_cell _ (terms_of c.args.self.now) c.args.outer.now _ _ _ _ _ c.joins.ensures c.from.ensures
    (to_z-of_z w32 _ f ∙ sym (cell_back _ f)) (to_z-of_z w32 _ l ∙ c.cell-left.ensures) (to_z-of_z w32 _ r)

use Rattle.std.proofs.Common.{◌∙◌, w32, SFits, rules}
use Rattle.std.proofs.lemmas.Int.{to_z-of_z}
use Rattle.pairing.specs.Terms.{terms_of}
use Rattle.pairing.proofs.Rows.{matched_by}
use Rattle.pairing.proofs.rule.JoinRule.matches.Goals as goal

pub returns : goal.returns
returns c =
    let r : SFits w32 c.cell.result = search rules in
    matched_by _ (terms_of c.args.self.now) c.args.outer.now c.args.inner.now _ c.matches_cell.ensures.0 (to_z-of_z w32 _ r ∙ c.cell.ensures)

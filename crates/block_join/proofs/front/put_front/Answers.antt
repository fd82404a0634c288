use Rattle.std.proofs.Common.{ℕ, ◌<◌, min, List, [], ◌∷◌, ◌++◌, sym, ap, ◌∙◌, subst, append_assoc, arith}
use Rattle.codec.specs.Rows.{row_bytes}
use Rattle.block.proofs.Places.{put_more, put_as}
use Rattle.block_join.specs.declared.phase.Phase.{Phase}
use Rattle.block_join.specs.Stages.{lead}
use Rattle.block_join.specs.Code.{stage_of, Indexed}
use Rattle.block_join.proofs.front.put_front.Goals as goal

pub returns-in-Matching-clause-put : goal.returns-in-Matching-clause-put
returns-in-Matching-clause-put c = λ small.
    let held = c.in-Matching.held in
    let w = min 8 c.args.width in
    let lt : c.in-Matching.index < 256 = subst (λ (q : Phase). Indexed (stage_of q)) c.in-Matching.is small in
    let marks : List ℕ = 2 ∷ (c.args.head.form ∷ (c.args.head.count ∷ (1 ∷ []))) in
    let w0 = c.args.writer.now in
    let w1 = c.put_bytes-in-Matching.new.self in
    let w2 = c.put_row.new.self in
    let w3 = c.put_bytes-in-Matching-2.new.self in
    put_as _ _ w0 w3 (append_assoc marks (row_bytes w held) _ ∙ ap (λ (k : ℕ). marks ++ (row_bytes w held ++ (k ∷ []))) (omega arith) ∙ ap (λ (q : Phase). lead w c.args.head.form c.args.head.count (stage_of q)) (sym c.in-Matching.is))
    (put_more (marks ++ row_bytes w held) _ w0 w2 w3 (put_more marks (row_bytes w held) w0 w1 w2 c.put_bytes-in-Matching.ensures.put c.put_row.ensures.put) c.put_bytes-in-Matching-2.ensures.put)

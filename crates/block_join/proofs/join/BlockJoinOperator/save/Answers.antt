use Rattle.std.proofs.Common.{◌≡◌, ℕ, min, List, ◌++◌, length, sym, ap, ◌∙◌, arith, rules}
use Rattle.codec.specs.Bytes.{be2}
use Rattle.codec.specs.Frames.{framed}
use Rattle.codec.proofs.Frames.{framed_length}
use Rattle.operator.specs.Of.{of}
use Rattle.pairing.specs.Terms.{block_size}
use Rattle.block.specs.Choices.{goes_back, choices_of_outer}
use Rattle.block.specs.Kept.{kept_form, kept_count}
use Rattle.block.proofs.Places.{put_more, put_as, wrote_all}
use Rattle.keeper.specs.Taking.{form_by}
use Rattle.keeper.specs.Keeping.{only}
use Rattle.keeper.proofs.Codes.{chosen, same_part}
use Rattle.keeper.proofs.Laws.{size_few}
use Rattle.keeper.proofs.Restores.{kept_counts, kept_forms}
use Rattle.block_join.specs.Stages.{lead, within_scan, join_kind}
use Rattle.block_join.specs.Joining.{join_sense, next}
use Rattle.block_join.specs.Code.{joining}
use Rattle.block_join.specs.Fronts.{proper}
use Rattle.block_join.proofs.Records.{block_kept, front_bytes, block_bytes, inner_bytes}
use Rattle.block_join.proofs.Steps.{indexed}
use Rattle.block_join.proofs.join.BlockJoinOperator.save.Goals as goal

pub returns : goal.returns
unfolding framed
returns g c = λ good.
    let o = g.O.Operator in
    let i = g.I.Operator in
    let s = joining o i c.args.self.now in
    let x = s.outer.child in
    let y = s.inner in
    let cs = c.args.choices.now in
    let lo = g.met.O.Operator.laws in
    let li = g.met.I.Operator.laws in
    let h = chosen join_kind join_sense proper o.machine (of o) lo i.machine (of i) li (next o.machine i.machine) s cs c.split-choices.result.outer.now c.split-choices.result.inner.now c.keepers.result good c.keepers.ensures c.split-choices.ensures.outer c.split-choices.ensures.inner in
    let ob = o.machine.saved x (choices_of_outer (o.machine.keepers x) cs) in
    let front = front_bytes o.machine i.machine s cs in
    let part = block_bytes o.machine i.machine s cs in
    let tail = inner_bytes o.machine i.machine s cs in
    let kept = block_kept o.machine i.machine s cs in
    let ww : min 8 c.width.result ≡ i.machine.width y = omega (arith, c.width.ensures, (li.sized y).1) in
    let count : length c.rows.result.now ≡ kept_count kept = omega (arith, ap length c.rows.ensures.is, c.rows.ensures.few, kept_counts (goes_back cs) s.outer ob) in
    let form : c.from.result ≡ kept_form kept = c.from.ensures ∙ c.form.ensures ∙ ap (λ b. form_by b s.outer.contract) c.split-choices.ensures.back ∙ sym (kept_forms (goes_back cs) s.outer ob) in
    let led : lead (min 8 c.width.result) c.from.result (length c.rows.result.now) s.stage ≡ front =
    ap (λ (j : ℕ). lead j c.from.result (length c.rows.result.now) s.stage) ww ∙ ap (λ (j : ℕ). lead (i.machine.width y) j (length c.rows.result.now) s.stage) form ∙ ap (λ (j : ℕ). lead (i.machine.width y) (kept_form kept) j s.stage) count in
    let size = c.size-size.ensures good in
    let head : c.frame_head.result ≡ be2 (length (front ++ (part ++ tail))) = c.frame_head.ensures ∙ ap be2 (omega (arith, size, framed_length (front ++ (part ++ tail)), c.saturating_sub.ensures)) in
    let w0 = c.new-writer.result in
    let w1 = c.put_bytes.new.self in
    let w2 = c.put_front.new.writer in
    let w3 = c.put_part.new.writer in
    let w4 = c.put_tail.new.writer in
    let p1 = put_as _ _ w0 w1 head c.put_bytes.ensures.put in
    let p2 = put_as _ _ w1 w2 led (c.put_front.ensures.put (indexed (block_size s.terms) (i.machine.width y) s.stage s.outer.rows s.outer.contract (size_few s.terms) good.stands.ruled)) in
    let p3 = put_as _ _ w2 w3 (same_part o.machine s.outer _ _ _ _ c.split-choices.ensures.back h.outers) (c.put_part.ensures.put h.fine) in
    let p4 = put_as _ _ w3 w4 (ap (λ (l : List ℕ). only (within_scan s.stage) (i.machine.saved y l)) h.inners) (c.put_tail.ensures.put h.inner) in
    let all = put_more (be2 (length (front ++ (part ++ tail)))) (front ++ (part ++ tail)) w0 w1 w4 p1 (put_more front (part ++ tail) w1 w2 w4 p2 (put_more part tail w2 w3 w4 p3 p4)) in
    wrote_all (framed (front ++ (part ++ tail))) c.args.buffer.now _ w0 w4 c.size-size.result c.new-writer.ensures.holds c.new-writer.ensures.front (search rules) all size c.if-buffer-size.false

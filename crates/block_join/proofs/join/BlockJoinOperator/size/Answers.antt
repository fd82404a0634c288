use Rattle.std.proofs.Common.{◌≡◌, ℕ, min, List, ◌++◌, length, ap, ◌∙◌, arith, length-append}
use Rattle.codec.proofs.Frames.{framed_length}
use Rattle.operator.specs.Of.{of}
use Rattle.block.specs.Kept.{kept_form, kept_count}
use Rattle.keeper.specs.Keeping.{only}
use Rattle.keeper.proofs.Codes.{chosen, same_part}
use Rattle.block_join.specs.Stages.{lead, within_scan, join_kind}
use Rattle.block_join.specs.Joining.{join_sense, next}
use Rattle.block_join.specs.Code.{joining, stage_of}
use Rattle.block_join.specs.Fronts.{proper}
use Rattle.block_join.specs.Laws.{laws}
use Rattle.block_join.proofs.Records.{block_kept, front_bytes, block_bytes, inner_bytes}
use Rattle.block_join.proofs.join.BlockJoinOperator.size.Goals as goal

pub overflow_add-front : goal.overflow_add-front
overflow_add-front g c = record { fits = omega (arith, c.front_size-front.ensures 0 0, proper.short (min 8 c.width.result) 0 0 (stage_of c.args.self.now.phase) (omega arith)) }

pub returns : goal.returns
returns g c = λ good.
    let o = g.O.Operator in
    let i = g.I.Operator in
    let s = joining o i c.args.self.now in
    let x = s.outer.child in
    let y = s.inner in
    let cs = c.args.choices.now in
    let lo = g.met.O.Operator.laws in
    let li = g.met.I.Operator.laws in
    let h = chosen join_kind join_sense proper o.machine (of o) lo i.machine (of i) li (next o.machine i.machine) s cs c.split-choices.result.outer.now c.split-choices.result.inner.now c.keepers.result good c.keepers.ensures c.split-choices.ensures.outer c.split-choices.ensures.inner in
    let front = front_bytes o.machine i.machine s cs in
    let part = block_bytes o.machine i.machine s cs in
    let tail = inner_bytes o.machine i.machine s cs in
    let kept = block_kept o.machine i.machine s cs in
    let ps = c.part_size-part.ensures h.fine ∙ ap length (same_part o.machine s.outer _ _ _ _ c.split-choices.ensures.back h.outers) in
    let ts = c.tail_size-tail.ensures h.inner ∙ ap (λ (l : List ℕ). length (only (within_scan s.stage) (i.machine.saved y l))) h.inners in
    let ww : min 8 c.width.result ≡ i.machine.width y = omega (arith, c.width.ensures, (li.sized y).1) in
    let fs = c.front_size-front.ensures (kept_form kept) (kept_count kept) ∙ ap (λ (j : ℕ). length (lead j (kept_form kept) (kept_count kept) s.stage)) ww in
    let small = (laws o.machine (of o) lo i.machine (of i) li).small s cs good in
    omega (arith, c.saturating_add.ensures, c.saturating_add-2.ensures, ps, ts, fs, framed_length (front ++ (part ++ tail)), length-append front (part ++ tail), length-append part tail, small, good.few)

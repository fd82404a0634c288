use Rattle.std.proofs.Common.{◌≡◌, ℕ, Bool, List, ap, ◌∙◌, arith}
use Rattle.operator.specs.Of.{of}
use Rattle.block.specs.Choices.{goes_back}
use Rattle.keeper.specs.Taking.{refetch_kept}
use Rattle.keeper.specs.Keeping.{only, refetch_tail, refetch_of, refetch_in, fields}
use Rattle.keeper.specs.Outer.{kept_for}
use Rattle.keeper.proofs.Codes.{chosen}
use Rattle.keeper.proofs.Laws.{saved_parsed}
use Rattle.block_join.specs.Stages.{within_scan, join_kind}
use Rattle.block_join.specs.Joining.{join_sense, join_machine, next}
use Rattle.block_join.specs.Code.{joining}
use Rattle.block_join.specs.Fronts.{proper}
use Rattle.block_join.specs.Laws.{laws}
use Rattle.block_join.proofs.join.BlockJoinOperator.refetch.Goals as goal

pub returns : goal.returns
returns g c = λ good.
    let o = g.O.Operator in
    let i = g.I.Operator in
    let s = joining o i c.args.self.now in
    let x = s.outer.child in
    let y = s.inner in
    let cs = c.args.choices.now in
    let lo = g.met.O.Operator.laws in
    let li = g.met.I.Operator.laws in
    let h = chosen join_kind join_sense proper o.machine (of o) lo i.machine (of i) li (next o.machine i.machine) s cs c.split-choices.result.outer.now c.split-choices.result.inner.now c.keepers.result good c.keepers.ensures c.split-choices.ensures.outer c.split-choices.ensures.inner in
    let f = fields join_kind.phases o.machine i.machine s cs in
    let a = c.refetch-part.ensures h.fine ∙ ap (λ (b : Bool). refetch_kept (o.machine.refetch x) (kept_for o.machine b c.split-choices.result.outer.now s.outer)) c.split-choices.ensures.back ∙ ap (λ (l : List ℕ). refetch_kept (o.machine.refetch x) (kept_for o.machine (goes_back cs) l s.outer)) h.outers in
    let b = c.tail_refetch.ensures h.inner ∙ ap (λ (l : List ℕ). refetch_tail (within_scan s.stage) (i.machine.refetch y) (only (within_scan s.stage) (i.machine.saved y l))) h.inners in
    let m = join_machine o.machine o.togo i.machine in
    let all : m.refetch s (m.saved s cs) ≡ refetch_in join_kind.phases (o.machine.refetch x) (i.machine.refetch y) f = ap (refetch_of join_kind.phases (o.machine.refetch x) (i.machine.refetch y)) (saved_parsed join_kind join_sense proper o.machine (of o) lo i.machine (of i) li (next o.machine i.machine) s cs good) in
    let l = laws o.machine (of o) lo i.machine (of i) li in
    omega (arith, c.saturating_add.ensures, a, b, all, l.few s (m.saved s cs), l.small s cs good, good.few)

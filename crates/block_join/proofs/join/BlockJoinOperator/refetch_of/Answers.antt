use Rattle.std.proofs.Common.{Bool, ap, arith}
use Rattle.operator.specs.Of.{of}
use Rattle.keeper.specs.Keeping.{refetch_tail}
use Rattle.block_join.specs.Code.{joining}
use Rattle.block_join.proofs.Records.{refetches}
use Rattle.block_join.proofs.join.BlockJoinOperator.refetch_of.Goals as goal

pub returns-then-in_scan : goal.returns-then-in_scan
returns-then-in_scan g c =
    let o = g.O.Operator in
    let i = g.I.Operator in
    let q = c.in-Some.parts in
    let all = refetches o.machine (of o) g.met.O.Operator.laws i.machine (of i) g.met.I.Operator.laws (joining o i c.args.self.now) c.args.bytes.now q _ c.in-Some.ensures.is c.in-Some.ensures.enough (c.type_inv.bytes 0).fits (c.type_inv.bytes 1).fits c.refetch_of-part.ensures in
    let tail = ap (λ (b : Bool). refetch_tail b (i.machine.refetch (i.state c.args.self.now.inner)) q.tail.now) c.if-in_scan.ensures in
    omega (arith, c.saturating_add.ensures, c.refetch_of.ensures, tail, all)

pub returns-else-in_scan : goal.returns-else-in_scan
returns-else-in_scan g c =
    let o = g.O.Operator in
    let i = g.I.Operator in
    let q = c.in-Some.parts in
    let all = refetches o.machine (of o) g.met.O.Operator.laws i.machine (of i) g.met.I.Operator.laws (joining o i c.args.self.now) c.args.bytes.now q _ c.in-Some.ensures.is c.in-Some.ensures.enough (c.type_inv.bytes 0).fits (c.type_inv.bytes 1).fits c.refetch_of-part.ensures in
    let tail = ap (λ (b : Bool). refetch_tail b (i.machine.refetch (i.state c.args.self.now.inner)) q.tail.now) c.if-in_scan.ensures in
    omega (arith, tail, all)

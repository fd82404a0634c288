use Rattle.std.proofs.Common.{arith}
use Rattle.std.proofs.lemmas.Result.{err_from_is_err_and}
use Rattle.operator.specs.Of.{of}
use Rattle.keeper.specs.Outer.{taken_of}
use Rattle.keeper.proofs.Codes.{no_block, both}
use Rattle.block_join.specs.Stages.{join_kind}
use Rattle.block_join.specs.Joining.{join_sense, next}
use Rattle.block_join.specs.Code.{joining}
use Rattle.block_join.specs.Fronts.{proper}
use Rattle.block_join.proofs.Records.{record_apart}
use Rattle.block_join.proofs.join.BlockJoin.resume.Goals as goal

pub returns-in_err-load-clause-restored : goal.returns-in_err-load-clause-restored
returns-in_err-load-clause-restored g c = λ few.
    let o = g.O.Operator in
    let i = g.I.Operator in
    let lo = g.met.O.Operator.laws in
    let li = g.met.I.Operator.laws in
    let s = joining o i c.args.self.now in
    let bs = c.args.bytes.now in
    let known = c.in_ok-parts.ensures.ok_part in
    let a = record_apart o.machine (of o) lo i.machine (of i) li s bs c.in_ok-parts.parts (rw known at c.parts.ensures.is) (rw known at c.parts.ensures.enough) in
    let p = err_from_is_err_and c.from_residual-in_err-load.result c.from_residual-in_err-load.ensures.1 in
    let w = no_block join_kind join_sense proper o.machine (of o) lo i.machine (of i) li (next o.machine i.machine) s bs _ (taken_of o c.load.new.self) _ c.in_err-load.field-0.0 a.is (c.in_err-load.ensures.restored (omega arith) a.loadable) in
    rw (p.1, p.2) w

pub returns-clause-restored : goal.returns-clause-restored
returns-clause-restored g c = λ few.
    let o = g.O.Operator in
    let i = g.I.Operator in
    let lo = g.met.O.Operator.laws in
    let li = g.met.I.Operator.laws in
    let s = joining o i c.args.self.now in
    let bs = c.args.bytes.now in
    let known = c.in_ok-parts.ensures.ok_part in
    let a = record_apart o.machine (of o) lo i.machine (of i) li s bs c.in_ok-parts.parts (rw known at c.parts.ensures.is) (rw known at c.parts.ensures.enough) in
    both join_kind join_sense proper o.machine (of o) lo i.machine (of i) li (next o.machine i.machine) s bs _ (taken_of o c.load.new.self) _ a.is (c.in_ok-load.ensures.restored (omega arith) a.loadable) _ c.load_or_rewind.result c.in_scan.result c.in_scan.ensures (c.load_or_rewind.ensures.loaded (omega arith))

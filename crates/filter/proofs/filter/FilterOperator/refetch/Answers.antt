use Rattle.std.proofs.Common.{sym, ap, ◌∙◌, arith}
use Rattle.operator.specs.Of.{of}
use Rattle.codec.proofs.Frames.{body_framed}
use Rattle.filter.specs.Filtering.{refetched}
use Rattle.filter.specs.Filters.{good}
use Rattle.filter.proofs.filter.FilterOperator.refetch.Goals as goal

pub returns : goal.returns
returns g c = λ h.
    let m = g.C.Operator.machine in
    let s = g.C.Operator.state c.args.self.now.child in
    let cs = c.args.choices.now in
    let k = good m (of g.C.Operator) _ h in
    c.refetch.ensures k ∙ sym (ap (refetched (m.refetch s)) (body_framed (m.saved s cs) (omega (arith, g.met.C.Operator.laws.small s cs k, k.few))))

use Rattle.std.proofs.Common.{sym, arith}
use Rattle.std.proofs.lemmas.Option.{slice_get_within}
use Rattle.source.proofs.Tables.{keeps}
use Rattle.scan.specs.Scans.{stepped, stopped}
use Rattle.scan.proofs.ScanOperator.step.Goals as goal

pub overflow_add-self : goal.overflow_add-self
overflow_add-self g c =
    let t = g.S.Source.table c.args.self.now.source in
    omega (arith, slice_get_within t.content c.args.self.now.position c.in-Some.row (sym c.in-Some.ensures), (keeps t).few)

pub returns-in_default : goal.returns-in_default
returns-in_default g c = λ h. stopped (g.S.Source.table c.args.self.now.source) c.args.self.now.position c.in_default.ensures

pub returns : goal.returns
returns g c = λ h. stepped (g.S.Source.table c.args.self.now.source) c.args.self.now.position c.in-Some.row c.in-Some.ensures

use Rattle.std.proofs.Common.{ap, ◌∙◌}
use Rattle.operator.specs.Of.{of}
use Rattle.keeper.proofs.Loads.{begin_loaded, loaded_there, loaded_none}
use Rattle.keeper.proofs.record.load_or_rewind.Goals as goal

pub returns-then-written : goal.returns-then-written
returns-then-written g c =
    let o = g.C.Operator in
    let x = o.state c.args.child.now in
    record {
      loaded = λ few. loaded_there c.args.written (o.machine.restored x) (o.machine.begin x) c.args.bytes.now c.load.result _ c.if-written.true (c.load.ensures few);
      begins = λ few. begin_loaded o.machine (of o) g.met.C.Operator.laws x c.args.bytes.now _ c.load.result few (c.load.ensures few);
    }

pub returns-else-written : goal.returns-else-written
returns-else-written g c =
    let o = g.C.Operator in
    let x = o.state c.args.child.now in
    let l = g.met.C.Operator.laws in
    record {
      loaded = λ few. loaded_none c.args.written (o.machine.restored x) (o.machine.begin x) c.args.bytes.now _ c.if-written.false c.rewind.ensures;
      begins = λ few. ap o.machine.begin c.rewind.ensures ∙ (l.alike x (o.machine.begin x) (l.begins x).same).begin;
    }

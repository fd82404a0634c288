use Rattle.std.proofs.Common.{sym, arith}
use Rattle.std.proofs.lemmas.Option.{slice_get_past}
use Rattle.source.specs.Ramps.{ramp_table}
use Rattle.source.proofs.Ramped.{ramp_length, ramp_read}
use Rattle.source.proofs.ramp.RampSource.row.Goals as goal

pub returns-then-i-self : goal.returns-then-i-self
returns-then-i-self c =
    let r = c.args.self.now.slope in
    sym (slice_get_past (ramp_table r.start r.step r.count).content c.args.i (omega (arith, c.if-i-self.true, ramp_length r.start r.step r.count c.args.self.now.rule)))

pub returns : goal.returns
returns c =
    let r = c.args.self.now.slope in
    ramp_read r.start r.step c.from.result c.cell-second.result r.count c.args.i c.args.self.now.rule c.if-i-self.false (omega arith) c.from.ensures (record { sfits = c.cell-second.type_inv }) c.cell-second.ensures

use Rattle.std.proofs.Common.{length, sym, refl, ap, arith}
use Rattle.operator.specs.Of.{of}
use Rattle.keeper.specs.Taking.{fetch}
use Rattle.keeper.specs.Outer.{taken_of}
use Rattle.keeper.proofs.Blocks.{taken_same}
use Rattle.keeper.proofs.Fetches.{starts, row_turn, busy_turn, end_turn, all_there}
use Rattle.keeper.proofs.outer.OuterBlock.fetch.Goals as goal

pub loop-self-init : goal.loop-self-init
loop-self-init g c =
    let o = g.O.Operator in
    let x = o.state c.args.self.now.child in
    starts o.machine (of o) g.met.O.Operator.laws _ _ c.args.count _ refl c.requires.0 c.clear.ensures
    (ap (fetch o.machine.next (o.togo x) c.args.count) (taken_same _ _ _ _ x x (sym c.clear.ensures) refl refl))

pub loop-self-preserved-in-Row : goal.loop-self-preserved-in-Row
loop-self-preserved-in-Row g c =
    let o = g.O.Operator in
    let inv = c.loop-self.invariant in
    let t = taken_of o c.loop-self.self in
    let n = ap length c.rows.ensures.is in
    (row_turn o.machine (of o) g.met.O.Operator.laws _ _ c.args.count t _ _ _ _ inv (omega arith) refl (g.met.O.Operator.laws.moves t.child inv.good) (c.in-Row.ensures inv.good) (taken_same _ _ _ _ _ _ (c.add.ensures.added (omega (arith, c.requires.1))) refl refl)).0

pub loop-self-preserved : goal.loop-self-preserved
loop-self-preserved g c =
    let o = g.O.Operator in
    let inv = c.loop-self.invariant in
    let t = taken_of o c.loop-self.self in
    let n = ap length c.rows.ensures.is in
    (busy_turn o.machine (of o) g.met.O.Operator.laws _ _ c.args.count t _ _ _ inv (omega arith) refl (g.met.O.Operator.laws.moves t.child inv.good) (c.in-Busy.ensures inv.good) refl).0

pub returns-in-End : goal.returns-in-End
returns-in-End g c =
    let o = g.O.Operator in
    let inv = c.loop-self.invariant in
    let t = taken_of o c.loop-self.self in
    let n = ap length c.rows.ensures.is in
    let q = end_turn o.machine (of o) g.met.O.Operator.laws _ _ c.args.count t _ _ _ _ inv (omega arith) refl (c.in-End.ensures inv.good) refl in
    record { fetched = q.0; begins = q.1 }

pub returns : goal.returns
returns g c =
    let o = g.O.Operator in
    let inv = c.loop-self.invariant in
    let n = ap length c.rows.ensures.is in
    record { fetched = all_there o.machine (of o) g.met.O.Operator.laws _ _ c.args.count (taken_of o c.loop-self.self) inv (omega arith); begins = inv.begins }

use Rattle.std.proofs.Common.{◌≡◌, ℕ, ◌*◌, length, ap, ◌∙◌, arith}
use Rattle.operator.specs.Machine.{Good}
use Rattle.block.proofs.Places.{rows_few}
use Rattle.keeper.specs.Outer.{taken_of}
use Rattle.keeper.proofs.Blocks.{part_length}
use Rattle.keeper.proofs.outer.OuterBlock.part_size.Goals as goal

pub returns-in-None : goal.returns-in-None
returns-in-None g c = λ fine.
    let o = g.O.Operator in
    let t = taken_of o c.args.self.now in
    let laws = g.met.O.Operator.laws in
    let good : Good o.machine o.standing t.child = record { stands = fine.stands.child; few = fine.few } in
    let v = (laws.sized t.child).1 in
    let w : c.min.result ≡ o.machine.width t.child = omega (arith, c.min.ensures, c.width.ensures) in
    let n : length c.rows.result.now * (4 * c.min.result) ≡ length t.rows * (4 * o.machine.width t.child) = ap (λ (k : ℕ). k * (4 * c.min.result)) (ap length c.rows.ensures.is) ∙ ap (λ (k : ℕ). length t.rows * (4 * k)) w in
    omega (
      arith,
      c.saturating_add.ensures,
      c.size.ensures good,
      n,
      rows_few (length c.rows.result.now) c.min.result c.rows.ensures.few (omega (arith, c.min.ensures)),
      laws.small t.child c.args.choices.outer.now good,
      fine.few,
      part_length o.machine c.args.choices.back c.args.choices.outer.now t v fine.stands.wide c.in-None.ensures,
    )

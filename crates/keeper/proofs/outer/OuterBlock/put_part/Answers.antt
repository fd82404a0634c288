use Rattle.std.proofs.Common.{◌≡◌, ℕ, min, List, ◌++◌, sym, ap, ◌∙◌, arith}
use Rattle.block.specs.Places.{rows_bytes}
use Rattle.block.proofs.Places.{put_as, put_more}
use Rattle.keeper.specs.Outer.{taken_of}
use Rattle.keeper.proofs.Blocks.{part_dumped}
use Rattle.keeper.proofs.outer.OuterBlock.put_part.Goals as goal

pub returns-in-None-clause-put : goal.returns-in-None-clause-put
returns-in-None-clause-put g c = λ fine.
    let o = g.O.Operator in
    let t = taken_of o c.args.self.now in
    let v = (g.met.O.Operator.laws.sized t.child).1 in
    let w : min 8 c.width.result ≡ o.machine.width t.child = omega (arith, c.width.ensures) in
    let bytes : rows_bytes (min 8 c.width.result) c.rows.result.now ≡ rows_bytes (o.machine.width t.child) t.rows = ap (λ (k : ℕ). rows_bytes k c.rows.result.now) w ∙ ap (rows_bytes (o.machine.width t.child)) c.rows.ensures.is in
    put_as _ _ c.args.writer.now c.put_record.new.writer (ap (λ (l : List ℕ). l ++ o.machine.saved t.child c.args.choices.outer.now) bytes ∙ sym (part_dumped o.machine c.args.choices.back c.args.choices.outer.now t c.in-None.ensures))
    (put_more _ _ c.args.writer.now c.put_rows.new.self c.put_record.new.writer c.put_rows.ensures.put (c.put_record.ensures.put (record { stands = fine.stands.child; few = fine.few })))

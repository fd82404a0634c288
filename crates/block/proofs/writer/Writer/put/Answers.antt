use Rattle.std.proofs.Common.{arith, refl}
use Rattle.std.proofs.lemmas.List.{take_rest}
use Rattle.block.proofs.Places.{puts_ok, puts_err}
use Rattle.block.proofs.writer.Writer.put.Goals as goal

pub returns-in-Ok-clause-put : goal.returns-in-Ok-clause-put
returns-in-Ok-clause-put g c = λ bytes each.
    let w = c.args.self.now in
    puts_ok w.place bytes w.buffer.now c.part.new.arg2 c.in-Ok.count c.saturating_add-self.result (omega arith) c.saturating_add-self.ensures
    (each _ _ (record { shown = _; shows = take_rest w.buffer.now w.place; left = _; met = c.in-Ok.ensures; leaves = refl }))

pub returns-in_default-clause-put : goal.returns-in_default-clause-put
returns-in_default-clause-put g c = λ bytes each.
    let w = c.args.self.now in
    puts_err w.place bytes w.buffer.now c.part.new.arg2 _ c.in_default.field-0 _
    (each _ _ (record { shown = _; shows = take_rest w.buffer.now w.place; left = _; met = c.in_default.ensures; leaves = refl }))

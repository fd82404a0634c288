use Rattle.std.proofs.Common.{length, Some, sym, ap, ◌∙◌, length-drop}
use Rattle.std.proofs.lemmas.List.{take_rest}
use Rattle.codec.proofs.Frames.{body_yes, body_no, body_short}
use Rattle.codec.proofs.frame.body_of.Goals as goal

pub returns-in_default : goal.returns-in_default
returns-in_default c = body_short c.args.bytes.now c.in_default.len_below

pub returns-then-from-body : goal.returns-then-from-body
returns-then-from-body c =
    body_yes c.args.bytes.now c.in-len2-up.len_at_least (sym c.from_be_bytes-length.ensures ∙ sym c.from.ensures ∙ c.if-from-body.true ∙ ap length (take_rest c.args.bytes.now 2) ∙ length-drop 2 c.args.bytes.now) ∙ ap Some (sym (take_rest c.args.bytes.now 2))

pub returns-else-from-body : goal.returns-else-from-body
returns-else-from-body c = body_no c.args.bytes.now c.in-len2-up.len_at_least (λ e. c.if-from-body.false (c.from.ensures ∙ c.from_be_bytes-length.ensures ∙ e ∙ sym (ap length (take_rest c.args.bytes.now 2) ∙ length-drop 2 c.args.bytes.now)))

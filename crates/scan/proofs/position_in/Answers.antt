use Rattle.std.proofs.Common.{Some, sym, ap, ◌∙◌, rules}
use Rattle.codec.proofs.Frames.{number_yes, number_no}
use Rattle.scan.proofs.position_in.Goals as goal

pub returns : goal.returns
returns c =
    let xs = c.in_ok-body_of.field-0.now in
    rw c.in_ok-body_of.ensures (ap Some c.from_be_bytes.ensures ∙ sym (number_yes xs (search rules)))

pub returns-in_default : goal.returns-in_default
returns-in_default c =
    let xs = c.in_ok-body_of.field-0.now in
    rw c.in_ok-body_of.ensures (sym (number_no xs (search rules)))

pub returns-in_default-2 : goal.returns-in_default-2
returns-in_default-2 c =
    let xs = c.in_ok-body_of.field-0.now in
    rw c.in_ok-body_of.ensures (sym (number_no xs (search rules)))

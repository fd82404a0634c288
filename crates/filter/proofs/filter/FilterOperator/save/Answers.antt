use Rattle.std.proofs.Common.{◌≡◌, ℕ, ◌+◌, List, ◌++◌, length, Ok, refl, ap, ◌∙◌, subst, arith}
use Rattle.std.proofs.lemmas.Result.{err_from_is_err_and}
use Rattle.codec.specs.Bytes.{be2}
use Rattle.codec.specs.Frames.{framed}
use Rattle.codec.specs.Written.{Wrote}
use Rattle.codec.proofs.Behind.{behind_short, behind}
use Rattle.codec.proofs.Frames.{framed_length}
use Rattle.operator.specs.Of.{of}
use Rattle.filter.specs.Filters.{good}
use Rattle.filter.proofs.filter.FilterOperator.save.Goals as goal

pub returns-then-buffer-lt2 : goal.returns-then-buffer-lt2
returns-then-buffer-lt2 g c = λ h. (refl, omega (arith, framed_length (g.C.Operator.machine.saved (g.C.Operator.state c.args.self.now.child) c.args.choices.now)), refl)

pub returns-in_err-n : goal.returns-in_err-n
unfolding framed
returns-in_err-n g c = λ h.
    let k = good g.C.Operator.machine (of g.C.Operator) _ h in
    let p = err_from_is_err_and c.from_residual.result c.from_residual.ensures.1 in
    let s = g.C.Operator.machine.saved (g.C.Operator.state c.args.self.now.child) c.args.choices.now in
    let w = behind_short 2 c.args.buffer.now c.save.new.buffer (be2 (length s)) s c.in_err-n.field-0.0 refl (omega arith) (c.in_err-n.ensures k) in
    rw (p.1, p.2) w

pub returns : goal.returns
unfolding framed
returns g c = λ h.
    let k = good g.C.Operator.machine (of g.C.Operator) _ h in
    let m = g.C.Operator.machine in
    let x = g.C.Operator.state c.args.self.now.child in
    let s = m.saved x c.args.choices.now in
    let small = g.met.C.Operator.laws.small x c.args.choices.now k in
    let w = behind 2 c.args.buffer.now c.save.new.buffer c.write_front.new.buffer c.frame_head.result s c.in_ok-n.n c.in_ok-head.head
    (ap length c.frame_head.ensures) (omega arith) (c.in_ok-n.ensures k) c.in_ok-head.ensures in
    let e : c.frame_head.result ≡ be2 (length s) = c.frame_head.ensures ∙ ap be2 (c.in_ok-n.ensures k).0 in
    let P : List ℕ → Type 0 = λ hs. Wrote (hs ++ s) c.args.buffer.now c.write_front.new.buffer (Ok (c.in_ok-n.n + c.in_ok-head.head)) in
    let v = subst P e w in
    (omega (arith, v.0, small, k.few), v.1, v.2)

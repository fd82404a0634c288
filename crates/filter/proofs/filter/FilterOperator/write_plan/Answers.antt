use Rattle.std.proofs.Common.{◌≡◌, ℕ, ◌+◌, List, [], ◌∷◌, ◌++◌, get_or, Ok, refl, ap, ◌∙◌, subst, arith, w32, SFits, rules}
use Rattle.std.proofs.lemmas.Int.{to_z-of_z}
use Rattle.codec.specs.Bytes.{cell_bytes}
use Rattle.codec.specs.Written.{Wrote}
use Rattle.codec.proofs.Behind.{behind}
use Rattle.plan.proofs.Told.{plan_length}
use Rattle.filter.proofs.filter.FilterOperator.write_plan.Goals as goal

pub returns : goal.returns
returns g c = λ h.
    let f = c.args.self.now in
    let fit : SFits w32 f.wanted.constant = search rules in
    let x = g.C.Operator.state f.child in
    let plan = g.C.Operator.machine.plan x in
    let t = c.to_be_bytes.result in
    let own : ℕ → List ℕ → List ℕ = λ k b. k ∷ f.wanted.cell ∷ f.wanted.condition ∷ get_or b 0 0 ∷ get_or b 1 0 ∷ get_or b 2 0 ∷ get_or b 3 0 ∷ [] in
    let w = behind 7 c.args.buffer.now c.write_plan.new.buffer c.write_front.new.buffer (own c.from-kind.result t) plan c.in_ok-n.n c.in_ok-head.head
    refl (omega arith) (c.in_ok-n.ensures (omega arith)) c.in_ok-head.ensures in
    let e : t ≡ cell_bytes f.wanted.constant = c.to_be_bytes.ensures ∙ ap cell_bytes (to_z-of_z w32 f.wanted.constant fit) in
    let all : own c.from-kind.result t ≡ own 2 (cell_bytes f.wanted.constant) = rw (c.from-kind.ensures, e) in
    let P : List ℕ → Type 0 = λ l. Wrote (l ++ plan) c.args.buffer.now c.write_front.new.buffer (Ok (c.in_ok-n.n + c.in_ok-head.head)) in
    let v = subst P all w in
    (omega (arith, v.0, plan_length _ _ _ (g.met.C.Operator.laws.planned x)), v.1, v.2)

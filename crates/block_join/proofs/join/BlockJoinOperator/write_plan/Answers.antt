use Rattle.std.proofs.Common.{◌≡◌, ℕ, List, [], ◌∷◌, ◌++◌, get_or, ap, ◌∙◌, arith, w32, SFits, rules}
use Rattle.std.proofs.lemmas.Int.{to_z-of_z}
use Rattle.codec.specs.Bytes.{cell_bytes}
use Rattle.block.proofs.Places.{put_more, put_as, wrote_all}
use Rattle.block_join.proofs.join.BlockJoinOperator.write_plan.Goals as goal

pub returns : goal.returns
returns g c = λ h.
    let o = g.O.Operator in
    let i = g.I.Operator in
    let rule = c.args.self.now.rule in
    let x = o.state c.args.self.now.outer.child in
    let y = i.state c.args.self.now.inner in
    let fit : SFits w32 rule.band = search rules in
    let t = c.to_be_bytes.result in
    let e : t ≡ cell_bytes rule.band = c.to_be_bytes.ensures ∙ ap cell_bytes (to_z-of_z w32 rule.band fit) in
    let plans = o.machine.plan x ++ i.machine.plan y in
    let own : ℕ → List ℕ → List ℕ = λ k b. k ∷ (rule.size ∷ (rule.outer_cell ∷ (rule.inner_cell ∷ (rule.condition ∷ (get_or b 0 0 ∷ (get_or b 1 0 ∷ (get_or b 2 0 ∷ (get_or b 3 0 ∷ [])))))))) in
    let head : own c.from.result t ≡ own 3 (cell_bytes rule.band) = rw (c.from.ensures, e) in
    let w0 = c.new-writer.result in
    let w1 = c.put_bytes.new.self in
    let w2 = c.put_plan.new.writer in
    let w3 = c.put_plan-2.new.writer in
    let all = put_more (own c.from.result t) plans w0 w1 w3 c.put_bytes.ensures.put (put_more _ _ w1 w2 w3 (c.put_plan.ensures.put (omega arith)) (c.put_plan-2.ensures.put (omega arith))) in
    wrote_all (own 3 (cell_bytes rule.band) ++ plans) c.args.buffer.now _ w0 w3 c.plan_size-size.result c.new-writer.ensures.holds c.new-writer.ensures.front (search rules) (put_as _ _ w0 w3 (ap (λ (l : List ℕ). l ++ plans) head) all) (c.plan_size-size.ensures h) c.if-buffer-size.false

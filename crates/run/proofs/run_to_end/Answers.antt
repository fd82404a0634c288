use Rattle.std.proofs.Common.{◌≡◌, List, [], ◌∷◌, ◌++◌, vec_items, sym, ap, ◌∙◌, subst, arith}
use Rattle.std.proofs.lemmas.Result.{err_from_is_err_and}
use Rattle.codec.specs.declared.row.Row.{Row}
use Rattle.operator.specs.Of.{of}
use Rattle.run.proofs.Going.{Going, starts, takes, waits, breaks}
use Rattle.run.proofs.run_to_end.Goals as goal
use Rattle.run.proofs.run_to_end.Goals.{in-Row+in_ok-push-in-Row, in-Busy}

pub steps-init : goal.steps-init
steps-init g c =
    let m = g.O.Operator.machine in
    let t = g.O.Operator.state c.rewind.new.self in
    let P : List Row → Type 0 = λ rows. Going m (of g.O.Operator) t t rows 0 in
    subst P (sym c.new-rows.ensures.items) (starts m (of g.O.Operator) g.met.O.Operator.laws (g.O.Operator.state c.args.tree.now) t (omega arith) c.rewind.ensures)

pub returns-in_err-push-in-Row : goal.returns-in_err-push-in-Row
returns-in_err-push-in-Row g c =
    let st = g.O.Operator.state in
    let p = err_from_is_err_and c.from_residual.result c.from_residual.ensures.1 in
    rw (p.1, p.2) (
    breaks g.O.Operator.machine (of g.O.Operator) g.met.O.Operator.laws (st c.args.tree.now) (st c.rewind.new.self) (st c.steps.tree) (st c.step.new.self)
    (vec_items c.steps.rows) c.in-Row.row c.steps.steps (omega arith) c.rewind.ensures c.steps.invariant (c.in-Row.ensures c.steps.invariant.good)
    )

pub steps-preserved : goal.steps-preserved
steps-preserved g c =
    let m = g.O.Operator.machine in
    let st = g.O.Operator.state in
    let u = st c.rewind.new.self in
    let P : List Row → Type 0 = λ rows. Going m (of g.O.Operator) u (st c.step.new.self) rows c.saturating_add-steps.result in
    elim c.match-step.branch [
      | in-Row+in_ok-push-in-Row w ↦
          let e : vec_items c.match-step.rows ≡ vec_items c.steps.rows ++ (w.in-Row.row ∷ []) = ap vec_items w.rows-is ∙ w.in_ok-push-in-Row.ensures.items in
          subst P (sym e) (takes m (of g.O.Operator) g.met.O.Operator.laws u (st c.steps.tree) (st c.step.new.self) (vec_items c.steps.rows) w.in-Row.row c.steps.steps c.saturating_add-steps.result c.steps.invariant (w.in-Row.ensures c.steps.invariant.good) c.saturating_add-steps.ensures).0
      | in-Busy w ↦
          subst P (sym (ap vec_items w.rows-is)) (waits m (of g.O.Operator) g.met.O.Operator.laws u (st c.steps.tree) (st c.step.new.self) (vec_items c.steps.rows) c.steps.steps c.saturating_add-steps.result c.steps.invariant (w.in-Busy.ensures c.steps.invariant.good) c.saturating_add-steps.ensures).0
    ]

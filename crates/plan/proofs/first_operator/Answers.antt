use Rattle.std.proofs.Common.{◌≡◌, ◌-◌, ◌≤◌, ◌∷◌, ◌++◌, length, take, drop, sym, ap, ◌∙◌, subst, arith, length-drop}
use Rattle.std.proofs.lemmas.List.{length-take-le, take-append-drop, take_all}
use Rattle.plan.specs.Plans.{IsKind, kind_at, kind_number}
use Rattle.plan.proofs.Numbers.{is_kind, the_kind, none_first}
use Rattle.plan.proofs.first_operator.Goals as goal

pub returns-in_err-kind : goal.returns-in_err-kind
returns-in_err-kind c =
    rw c.from_residual-in_err-kind.ensures (none_first c.in_ok-number.number.now c.in_ok-number.behind.now c.args.bytes.now c.try_from.result c.try_from.ensures c.in_err-kind.ensures.value c.in_ok-number.ensures.cases.0)

pub returns : goal.returns
returns c =
    let n = c.shape-shape.result.parameters in
    let bs = c.in_ok-number.behind.now in
    let kind : kind_number c.in_ok-kind.kind ≡ c.in_ok-number.number.now = the_kind c.in_ok-number.number.now c.in_ok-kind.kind c.try_from.result c.try_from.ensures c.in_ok-kind.ensures.value in
    let long : n ≤ length bs = c.in_ok-behind.ensures.lookup.0.0 in
    let rest : c.in_ok-behind.behind.now ≡ drop n bs = c.in_ok-behind.ensures.lookup.0.2 ∙ take_all (length bs - n) (drop n bs) (omega (arith, length-drop n bs)) in
    record {
      number = c.in_ok-number.number.now;
      parameters = take n bs;
      known = subst IsKind kind (is_kind c.in_ok-kind.kind);
      is = c.shape-shape.ensures ∙ ap kind_at kind;
      whole = length-take-le n bs long;
      written = c.in_ok-number.ensures.cases.0 ∙ ap (λ l. c.in_ok-number.number.now ∷ l) (sym (take-append-drop n bs) ∙ ap (λ l. take n bs ++ l) (sym rest));
    }

use Rattle.std.proofs.Common.{rules, ◌≡◌, ◌<◌, true, false, drop, [], length, get_or, sym, ◌∙◌, arith}
use Rattle.std.proofs.lemmas.List.{take_rest}
use Rattle.codec.specs.declared.row.Row.{Row}
use Rattle.codec.specs.Rows.{cell_at}
use Rattle.pairing.specs.Terms.{terms_of, match_cell}
use Rattle.pairing.specs.Pairs.{Pairing}
use Rattle.pairing.proofs.Rows.{by_cell, first_hit_part, first_none, first_none_part}
use Rattle.pairing.proofs.pair.next_match.Goals as goal

pub returns : goal.returns
returns c =
    let p : Pairing = record { terms = terms_of c.args.rule.now; width = c.args.width } in
    let d : Row = record { cells = [] } in
    let part = c.in_ok-get.field-0.now in
    let x = c.args.held.now in
    let r : c.cell-right.result ≡ cell_at x p.terms.right = c.cell-right.ensures in
    let e : part ≡ drop c.args.from c.args.rows.now = c.in_ok-get.ensures.lookup.0.2 ∙ take_rest c.args.rows.now c.args.from in
    let hit : match_cell p.terms c.in_ok-at.outer.now c.cell-right.result ≡ true = search rules in
    let h = first_hit_part p c.args.rows.now x d part c.in_ok-at.outer.now c.args.from c.in_ok-at.at e (search rules) (search rules) (by_cell true p.terms c.in_ok-at.outer.now x _ r hit)
    (λ j l. let miss : match_cell p.terms (get_or part j d) c.cell-right.result ≡ false = search rules in by_cell false p.terms (get_or part j d) x _ r miss) in
    let j = c.joined_row.ensures in
    rw j (sym h)

pub returns-in_err-at : goal.returns-in_err-at
returns-in_err-at c =
    let p : Pairing = record { terms = terms_of c.args.rule.now; width = c.args.width } in
    let d : Row = record { cells = [] } in
    let part = c.in_ok-get.field-0.now in
    let x = c.args.held.now in
    let r : c.cell-right.result ≡ cell_at x p.terms.right = c.cell-right.ensures in
    let e : part ≡ drop c.args.from c.args.rows.now = c.in_ok-get.ensures.lookup.0.2 ∙ take_rest c.args.rows.now c.args.from in
    c.from_residual-in_err-at.ensures
    ∙ sym (first_none_part p c.args.rows.now x d part c.args.from e
    (λ j l. let miss : match_cell p.terms (get_or part j d) c.cell-right.result ≡ false = search rules in by_cell false p.terms (get_or part j d) x _ r miss))

pub returns-in_err-get : goal.returns-in_err-get
returns-in_err-get c =
    let behind : length c.args.rows.now < c.args.from = search rules in
    c.from_residual.ensures ∙ sym (first_none (record { terms = terms_of c.args.rule.now; width = c.args.width }) c.args.rows.now c.args.held.now (record { cells = [] }) c.args.from (λ k a b. absurd (omega arith)))

use Rattle.std.proofs.Common.{◌≡◌, ℕ, ◌*◌, ◌≤◌, min, List, [], length, Option, sym, refl, ap, ◌∙◌, subst, arith}
use Rattle.std.proofs.lemmas.Result.{err_from_is_err_and}
use Rattle.codec.specs.Rows.{rows_of}
use Rattle.operator.specs.Of.{of}
use Rattle.block.specs.declared.part.Stored.{Stored}
use Rattle.block.specs.Kept.{kept_of, kept_record}
use Rattle.block.specs.Held.{contract_of}
use Rattle.keeper.specs.Taking.{taken, fetch}
use Rattle.keeper.specs.Outer.{taken_of, Loadable, Restores}
use Rattle.keeper.proofs.Blocks.{taken_same}
use Rattle.keeper.proofs.Loads.{loaded_ok, signed_so, begin_loaded, good_loaded, refused_as, dumped_as, owed_as}
use Rattle.keeper.proofs.outer.OuterBlock.load.Goals as goal

pub returns-in_err-load-in-Dumped : goal.returns-in_err-load-in-Dumped
returns-in_err-load-in-Dumped g c =
    let o = g.O.Operator in
    let x = o.state c.args.self.now.child in
    let p = err_from_is_err_and c.from_residual.result c.from_residual.ensures.1 in
    let bs = c.in-Dumped.outer.now in
    let t = o.state c.load.new.self in
    record {
      restored = λ few ok. refused_as o.machine o.togo (o.machine.restored x) (kept_of (o.machine.width x) c.args.stored) bs (o.machine.begin x) t _ _ _ _ (ap (λ (s : Stored). kept_record (kept_of (o.machine.width x) s)) c.in-Dumped.is) (c.in_err-load-in-Dumped.ensures few) p.1 p.2;
      begins = λ few. begin_loaded o.machine (of o) g.met.O.Operator.laws x bs t _ few (c.in_err-load-in-Dumped.ensures few);
    }

pub returns-in_err-load-in-Owed : goal.returns-in_err-load-in-Owed
returns-in_err-load-in-Owed g c =
    let o = g.O.Operator in
    let x = o.state c.args.self.now.child in
    let p = err_from_is_err_and c.from_residual-in_err-load-in-Owed.result c.from_residual-in_err-load-in-Owed.ensures.1 in
    let bs = c.in-Owed.contract.now in
    let t = o.state c.load-in-Owed.new.self in
    record {
      restored = λ few ok. refused_as o.machine o.togo (o.machine.restored x) (kept_of (o.machine.width x) c.args.stored) bs (o.machine.begin x) t _ _ _ _ (ap (λ (s : Stored). kept_record (kept_of (o.machine.width x) s)) c.in-Owed.is) (c.in_err-load-in-Owed.ensures few) p.1 p.2;
      begins = λ few. begin_loaded o.machine (of o) g.met.O.Operator.laws x bs t _ few (c.in_err-load-in-Owed.ensures few);
    }

pub fetch-requires : goal.fetch-requires
fetch-requires g c =
    let o = g.O.Operator in
    let x = o.state c.args.self.now.child in
    let few : o.machine.operators x ≤ 16 = omega (arith, c.operators.ensures) in
    (good_loaded o.machine (of o) g.met.O.Operator.laws x c.in-Owed.contract.now _ few (loaded_ok _ _ _ _ (c.in_ok-load-in-Owed.ensures few)), omega (arith, c.min.ensures))

pub returns-in_ok-load-in-Dumped : goal.returns-in_ok-load-in-Dumped
returns-in_ok-load-in-Dumped g c =
    let o = g.O.Operator in
    let x = o.state c.args.self.now.child in
    let v = o.machine.width x in
    let le = (g.met.O.Operator.laws.sized x).1 in
    let w : min 8 c.width-width.result ≡ v = omega (arith, c.width-width.ensures) in
    let bs = c.in-Dumped.outer.now in
    let n = c.in-Dumped.count in
    let rows = c.in-Dumped.rows.now in
    record {
      restored = λ few ok.
          let k = subst (Loadable v) c.in-Dumped.is ok in
          let room : n * (4 * min 8 c.width-width.result) ≤ length rows = subst (λ (j : ℕ). n * (4 * j) ≤ length rows) (sym w) k.1 in
          dumped_as o.machine o.togo (o.machine.restored x) (kept_of v c.args.stored) (rows_of v n rows) bs (o.state c.load.new.self) _ (ap (kept_of v) c.in-Dumped.is) (loaded_ok _ _ _ _ (c.in_ok-load-in-Dumped.ensures few))
          (taken_same _ _ _ _ _ _ (c.read.ensures room k.0 ∙ ap (λ (j : ℕ). rows_of j n rows) w) refl refl);
      begins = λ few. begin_loaded o.machine (of o) g.met.O.Operator.laws x bs _ _ few (c.in_ok-load-in-Dumped.ensures few);
    }

pub returns-in_ok-load-in-Owed : goal.returns-in_ok-load-in-Owed
returns-in_ok-load-in-Owed g c =
    let o = g.O.Operator in
    let x = o.state c.args.self.now.child in
    let v = o.machine.width x in
    let bs = c.in-Owed.contract.now in
    let t = o.state c.load-in-Owed.new.self in
    record {
      restored = λ few ok.
          let k = subst (Loadable v) c.in-Owed.is ok in
          let n : c.min.result ≡ c.in-Owed.count = omega (arith, c.min.ensures, k.0) in
          let held = c.of-self.ensures ∙ signed_so bs k.1 in
          owed_as o.machine o.togo (o.machine.restored x) (kept_of v c.args.stored) c.in-Owed.count bs t _ _ (ap (kept_of v) c.in-Owed.is) (loaded_ok _ _ _ _ (c.in_ok-load-in-Owed.ensures few))
          (subst (λ (z : Option (List ℕ)). Restores (fetch o.machine.next (o.togo t) c.in-Owed.count (taken [] z t)) c.fetch.result (taken_of o c.fetch.new.self)) held
          (subst (λ (j : ℕ). Restores (fetch o.machine.next (o.togo t) j (taken [] (contract_of c.of-self.result) t)) c.fetch.result (taken_of o c.fetch.new.self)) n c.fetch.ensures.fetched));
      begins = λ few. c.fetch.ensures.begins ∙ begin_loaded o.machine (of o) g.met.O.Operator.laws x bs t _ few (c.in_ok-load-in-Owed.ensures few);
    }

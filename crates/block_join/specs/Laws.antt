-- The machine of a block join keeps its meaning if its children's do. Assumes nothing.
use Rattle.std.proofs.Common.{ℕ, ◌+◌, ◌≤◌, min, List, ◌++◌, drop, subst}
use Rattle.std.specs.List.{AllByRecursion}
use Rattle.std.proofs.ByRecursion.{All-append, All-drop}
use Rattle.codec.specs.declared.row.Row.{Row}
use Rattle.codec.specs.Rows.{Wide}
use Rattle.operator.specs.Machine.{Machine, Good}
use Rattle.operator.specs.Laws.{Meaning, Laws}
use Rattle.operator.proofs.Steps.{begun}
use Rattle.pairing.specs.Terms.{Terms, block_size}
use Rattle.pairing.proofs.WideRows.{matches_wide, scanned_wide, joined_wide}
use Rattle.keeper.specs.Taking.{Taken}
use Rattle.keeper.specs.Keeping.{Keeping, keeping, Standing}
use Rattle.keeper.proofs.Laws as keeper_laws
use Rattle.block_join.specs.Stages.{Stage, empty, filling, scanning, matching, join_kind}
use Rattle.block_join.specs.Joining.{next, join_sense, join_machine, join_meaning}
use Rattle.block_join.specs.Fronts.{proper}
use Rattle.block_join.specs.Moves.{moves}

module _ {S T : Type 0} (o : Machine S) (d : Meaning S) (lo : Laws o d) (i : Machine T) (e : Meaning T) (li : Laws i e) where
  whole_wide : (y : T) → i.operators y ≤ 16 → AllByRecursion (Wide (i.width y)) (e.whole y)
  whole_wide y few =
      let z = li.begins y in
      subst (AllByRecursion (Wide (i.width y))) z.rest (subst (λ (w : ℕ). AllByRecursion (Wide w) (e.rest (i.begin y))) (li.by_plan y (i.begin y) z.same.plan).width (li.wide (i.begin y) (begun i e li y few)))

  module _ (r : Terms) (t : Taken S) (y : T) where
    abbrev Rows : List Row → Type 0
    Rows rows = AllByRecursion (Wide (min 8 (o.width t.child + i.width y))) rows

    wide_at : (g : Stage) → Standing join_kind join_sense o d i e (keeping r g t y) → AllByRecursion (Wide (o.width t.child)) (d.rest t.child) → AllByRecursion (Wide (i.width y)) (e.rest y) → AllByRecursion (Wide (i.width y)) (e.whole y) → Rows ((join_meaning o d i e).rest (keeping r g t y))
    wide_at empty st a b w = joined_wide (o.width t.child) (i.width y) r (lo.sized t.child).1 (block_size r) (d.rest t.child) (e.whole y) a w
    wide_at filling st a b w = joined_wide (o.width t.child) (i.width y) r (lo.sized t.child).1 (block_size r) (t.rows ++ d.rest t.child) (e.whole y) (All-append (Wide (o.width t.child)) t.rows (d.rest t.child) st.outer.wide a) w
    wide_at scanning st a b w =
        All-append (Wide (min 8 (o.width t.child + i.width y))) _ _ (scanned_wide (o.width t.child) (i.width y) r (lo.sized t.child).1 t.rows (e.rest y) st.outer.wide b)
        (joined_wide (o.width t.child) (i.width y) r (lo.sized t.child).1 (block_size r) (d.rest t.child) (e.whole y) a w)
    wide_at (matching held j) st a b w =
        All-append (Wide (min 8 (o.width t.child + i.width y))) _ _ (matches_wide (o.width t.child) (i.width y) r (lo.sized t.child).1 (drop j t.rows) held (All-drop (Wide (o.width t.child)) j t.rows st.outer.wide) st.ruled.3)
        (All-append (Wide (min 8 (o.width t.child + i.width y))) _ _ (scanned_wide (o.width t.child) (i.width y) r (lo.sized t.child).1 t.rows (e.rest y) st.outer.wide b)
        (joined_wide (o.width t.child) (i.width y) r (lo.sized t.child).1 (block_size r) (d.rest t.child) (e.whole y) a w))

  wide : (s : Keeping Stage S T) → Good (join_machine o d.togo i) (join_meaning o d i e).standing s → AllByRecursion (Wide ((join_machine o d.togo i).width s)) ((join_meaning o d i e).rest s)
  wide s g =
      let go = keeper_laws.good_outer join_kind join_sense proper o d lo i e li (next o i) s g in
      let gi = keeper_laws.good_inner join_kind join_sense proper o d lo i e li (next o i) s g in
      wide_at s.terms s.outer s.inner s.stage g.stands (lo.wide s.outer.child go) (li.wide s.inner gi) (whole_wide s.inner gi.few)

  pub laws : Laws (join_machine o d.togo i) (join_meaning o d i e)
  laws = keeper_laws.laws join_kind join_sense proper o d lo i e li (next o i) (moves o d lo i e li) wide

-- A filter over a scan answers the wanted rows, one source row a step. Assumes nothing.
use Rattle.std.proofs.Common.{◌≡◌, ℕ, ◌+◌, Bool, true, false, cond, List, [], ◌∷◌, length, drop, ℤ, None, sym, refl, ap, subst, arith, length-drop, w32, SFits}
use Rattle.codec.specs.declared.row.Row.{Row}
use Rattle.codec.specs.Bytes.{cell_word}
use Rattle.codec.specs.Rows.{cell_at}
use Rattle.source.specs.Table.{Content, Table}
use Rattle.source.proofs.Tables.{keeps}
use Rattle.operator.specs.Machine.{Machine, row, busy, end}
use Rattle.scan.specs.Scanning.{Scanning, at, taken, scan_machine, scan_meaning}
use Rattle.filter.specs.Condition.{Passes, own_flaw}
use Rattle.codec.specs.Picks.{Picked}
use Rattle.filter.proofs.Picks.{picks}
use Rattle.filter.specs.Filtering.{Filtering, filtering, over, passes, sifted, filter_machine, filter_meaning}
use Rattle.filter.specs.declared.condition.Criterion.{Criterion}
use Rattle.select.specs.Selecting.{Wanted}
use Rattle.run.specs.Runs.{Took, no_step, row_step, busy_step, Ran}

abbrev machine : Machine (Filtering Scanning)
machine = filter_machine scan_machine

-- each step that is not the end moves the scan on by one
on_row : (s u : Filtering Scanning) (xs : Content) (x : Row) → sifted s (taken s.child xs) ≡ row x u → u.child.position ≡ s.child.position + 1
on_row s u [] x e = absurd (let z : ◌≡◌ {A = ℕ} 0 1 = cc in omega arith)
on_row s u (y ∷ ys) x e = by (passes s y) e
  where
    by : (b : Bool) → cond b (row y (over s (at s.child.table (s.child.position + 1)))) (busy (over s (at s.child.table (s.child.position + 1)))) ≡ row x u → u.child.position ≡ s.child.position + 1
    by true f = let q : over s (at s.child.table (s.child.position + 1)) ≡ u = cc in ap (λ (v : Filtering Scanning). v.child.position) (sym q)
    by false f = absurd (let z : ◌≡◌ {A = ℕ} 0 1 = cc in omega arith)

on_busy : (s u : Filtering Scanning) (xs : Content) → sifted s (taken s.child xs) ≡ busy u → u.child.position ≡ s.child.position + 1
on_busy s u [] e = absurd (let z : ◌≡◌ {A = ℕ} 0 1 = cc in omega arith)
on_busy s u (y ∷ ys) e = by (passes s y) e
  where
    by : (b : Bool) → cond b (row y (over s (at s.child.table (s.child.position + 1)))) (busy (over s (at s.child.table (s.child.position + 1)))) ≡ busy u → u.child.position ≡ s.child.position + 1
    by true f = absurd (let z : ◌≡◌ {A = ℕ} 0 1 = cc in omega arith)
    by false f = let q : over s (at s.child.table (s.child.position + 1)) ≡ u = cc in ap (λ (v : Filtering Scanning). v.child.position) (sym q)

reached : (s t : Filtering Scanning) (n : ℕ) (rows : List Row) → Took machine s n rows t → t.child.position ≡ s.child.position + n
reached s t n rows no_step = omega arith
reached s _ _ _ (row_step {t} {u} {n} {rows} x took e) = omega (arith, reached s t n rows took, on_row t u _ x e)
reached s _ _ _ (busy_step {t} {u} {n} {rows} took e) = omega (arith, reached s t n rows took, on_busy t u _ e)

ended_at : (s : Filtering Scanning) (xs : Content) → sifted s (taken s.child xs) ≡ end → xs ≡ []
ended_at s [] e = refl
ended_at s (y ∷ ys) e = absurd (by (passes s y) e)
  where
    by : (b : Bool) → cond b (row y (over s (at s.child.table (s.child.position + 1)))) (busy (over s (at s.child.table (s.child.position + 1)))) ≡ end → ⊥
    by true f = let z : ◌≡◌ {A = ℕ} 0 1 = cc in omega arith
    by false f = let z : ◌≡◌ {A = ℕ} 0 1 = cc in omega arith

-- so a run takes one step for each row of the source, and answers the wanted ones
module _ (t : Table) (p cell condition : ℕ) (constant : ℤ) (u : Filtering Scanning) (rows : List Row) (steps : ℕ)
    (ran : Ran machine (filter_meaning scan_meaning) (filtering (at t p) cell condition (cell_word constant)) u rows steps) where
  pub one_each : steps ≡ length t.content
  one_each =
      let same : u.child.table.content ≡ t.content = let e = ran.same.sources in cc in
      let far = reached (filtering (at t 0) cell condition (cell_word constant)) u ran.count rows ran.took in
      let done : drop u.child.position u.child.table.content ≡ [] = ended_at u _ ran.ended in
      let few = (keeps t).few in
      let none_left : length (drop u.child.position u.child.table.content) ≡ 0 = ap length done in
      omega (arith, ap length same, length-drop u.child.position u.child.table.content, ran.within, ran.steps_is)

  pub wanted : SFits w32 constant → Picked (λ x. Passes condition (cell_at x cell) constant) t.content rows
  wanted fit = rw ran.all (picks (at t p) cell condition constant t.content fit)

-- and the same of the parts that the filter was made of
abbrev pub Facts : Table → Criterion → ℕ → ℕ → List Row → Type 0
Facts t k width steps rows = (own_flaw t.width k.cell k.condition 0 ≡ None) × (width ≡ t.width) × (steps ≡ length t.content) × Picked (Wanted k) t.content rows

pub facts_of : (t t' : Table) (k k' : Criterion) (width steps : ℕ) (rows : List Row) → t' ≡ t → k' ≡ k → Facts t' k' width steps rows → Facts t k width steps rows
facts_of t t' k k' width steps rows p q f =
    let T : Table → Type 0 = λ x. Facts x k width steps rows in
    let K : Criterion → Type 0 = λ x. Facts t' x width steps rows in
    subst T p (subst K q f)

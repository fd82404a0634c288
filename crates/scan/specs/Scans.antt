-- The machine of a scan keeps its meaning, and the code keeps to the machine. Assumes nothing.
use Rattle.std.specs.Prelude.{◌≡◌, ℕ, zero, suc, ◌+◌, ◌≤◌, Bool, true, false, cond, List, [], ◌∷◌, length, drop, Some, None, Option, nat_le, slice_get, slice_index, refl}
use Rattle.std.proofs.Common.{ap, sym, ◌∙◌, arith, length-drop}
use Rattle.std.proofs.lemmas.List.{drop-drop}
use Rattle.std.proofs.ByRecursion.{All-drop}
use Rattle.std.proofs.lemmas.Bool.{cond-true, le-leb, leb-true}
use Rattle.codec.specs.declared.row.Row.{Row}
use Rattle.codec.specs.Bytes.{be2}
use Rattle.codec.specs.Frames.{body, number, then}
use Rattle.codec.proofs.Frames.{body_framed, framed_length, framed_of2, number_back}
use Rattle.plan.specs.Plans.{tree, none}
use Rattle.source.specs.Table.{Content, Table}
use Rattle.source.proofs.Tables.{keeps, table_same}
use Rattle.operator.specs.declared.answer.Answer.TheVariants as answer
use Rattle.operator.specs.Calls.{Moved}
use Rattle.operator.specs.Laws.{Same, ByPlan, Alike, Meant, Read, Laws}
use Rattle.scan.specs.Scanning.{Scanning, at, taken, placed, rows_from, scan_machine, scan_meaning}

-- what the code does
stepped_at : (s : Scanning) (xs : Content) (p : ℕ) (y : Row) → Some y ≡ slice_get xs p → Moved s (taken s (drop p xs)) (answer.Row y) (at s.table (s.position + 1))
stepped_at s [] p y e = absurd (let z : ◌≡◌ {A = ℕ} 0 1 = cc in omega arith)
stepped_at s (x ∷ xs) zero y e = (refl, cc)
stepped_at s (x ∷ xs) (suc p) y e = stepped_at s xs p y e

stopped_at : (s : Scanning) (xs : Content) (p : ℕ) → None ≡ slice_get xs p → Moved s (taken s (drop p xs)) answer.End s
stopped_at s [] zero e = refl
stopped_at s [] (suc p) e = refl
stopped_at s (x ∷ xs) zero e = absurd (let z : ◌≡◌ {A = ℕ} 0 1 = cc in omega arith)
stopped_at s (x ∷ xs) (suc p) e = stopped_at s xs p e

pub stepped : (t : Table) (p : ℕ) (y : Row) → Some y ≡ slice_get t.content p → Moved (at t p) (taken (at t p) (drop p t.content)) (answer.Row y) (at t (p + 1))
stepped t p y e = stepped_at (at t p) t.content p y e

pub stopped : (t : Table) (p : ℕ) → None ≡ slice_get t.content p → Moved (at t p) (taken (at t p) (drop p t.content)) answer.End (at t p)
stopped t p e = stopped_at (at t p) t.content p e

-- and what that means
same : (s : Scanning) (p : ℕ) → Same scan_machine s (at s.table p)
same s p = record { plan = refl; sources = refl }

moved : (s : Scanning) (xs : Content) → drop s.position s.table.content ≡ xs → s.position ≤ length s.table.content → Meant scan_machine scan_meaning s (taken s xs)
moved s [] e le = (e, omega (arith, ap length e, length-drop s.position s.table.content))
moved s (x ∷ xs) e le =
    let rows = s.table.content in
    let l = length-drop s.position rows in
    let n : length (drop s.position rows) ≡ 1 + length xs = ap length e ∙ omega arith in
    let t : drop (s.position + 1) rows ≡ xs = sym (drop-drop 1 s.position rows) ∙ ap (drop 1) e in
    (omega arith, same s (s.position + 1), e ∙ ap (λ ys. x ∷ ys) (sym t), omega arith)

read_at : (s : Scanning) (bytes : List ℕ) (p : ℕ) (b : Bool) → nat_le p (length s.table.content) ≡ b
    → Read scan_machine scan_meaning s bytes (cond b (Some (at s.table p)) None) (cond b (Some (drop p s.table.content)) None)
read_at s bytes p true e = record { stands = leb-true _ _ e; same = same s p; rest = refl; refetch = refl; wide = All-drop _ p s.table.content (keeps s.table).wide }
read_at s bytes p false e = tt

read : (s : Scanning) (bytes : List ℕ) (o : Option ℕ) → Read scan_machine scan_meaning s bytes (then o (placed s.table)) (then o (rows_from s.table.content))
read s bytes None = tt
read s bytes (Some p) = read_at s bytes p (nat_le p (length s.table.content)) refl

by_plan : (s t : Scanning) → scan_machine.plan t ≡ scan_machine.plan s → ByPlan scan_machine scan_meaning s t
by_plan s t e = record { width = ap (λ l. slice_index l 1) e; operators = refl; keepers = refl; flaw = refl; refetch = refl }

alike : (s t : Scanning) → Same scan_machine s t → Alike scan_machine scan_meaning s t
alike s t h =
    let k : t.table.content ≡ s.table.content = let e = h.sources in cc in
    let e : t.table ≡ s.table = table_same s.table t.table (ap (λ l. slice_index l 1) h.plan) k in
    record {
      whole = k;
      full = ap length k;
      reading = ap {B = List ℕ → Option (List Row)} (λ (r : Content). λ bytes. then (then (body bytes) number) (rows_from r)) k;
      begin = ap (λ tb. at tb 0) e;
      restored = ap {B = List ℕ → Option Scanning} (λ (tb : Table). λ bytes. then (then (body bytes) number) (placed tb)) e;
    }

pub laws : Laws scan_machine scan_meaning
laws = record {
  by_plan = by_plan;
  alike = alike;
  shape = λ s t. (refl, refl);
  planned = λ s. record { trees = tree 1 (s.table.width ∷ be2 (length s.table.content)) none none; proper = (omega arith, omega arith, refl, refl, tt, tt); one = refl; written = refl; operators = refl; keepers = refl };
  sized = λ s. ((keeps s.table).some, (keeps s.table).narrow);
  wide = λ s h. All-drop _ s.position s.table.content (keeps s.table).wide;
  moves = λ s h. moved s (drop s.position s.table.content) refl h.stands;
  begins = λ s. record { stands = omega arith; same = same s 0; rest = refl; togo = omega arith };
  readback = λ s choices h.
      rw (body_framed (be2 s.position) (omega arith), number_back s.position (omega (arith, h.stands, (keeps s.table).few)))
      (cond-true _ _ _ (le-leb _ _ h.stands));
  reads = λ s bytes h. read s bytes (then (body bytes) number);
  framed = λ s choices h. framed_of2 (be2 s.position) (omega arith);
  adds = λ s choices h. omega (arith, framed_length (be2 s.position));
  small = λ s choices h. omega (arith, framed_length (be2 s.position));
  few = λ s bytes. omega arith;
}

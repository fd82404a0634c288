-- A tree run from its beginning to its end. Assumes nothing.
use Rattle.std.specs.Prelude.{◌≡◌, ℕ, ◌+◌, ◌<◌, ◌≤◌, min, List, [], ◌∷◌, ◌++◌, Ok, Err, vec_items, Result}
use Rattle.refusal.specs.Numbers.{number}
use Rattle.codec.specs.declared.row.Row.{Row}
use Rattle.operator.specs.Machine.{Machine, Good, row, busy, end}
use Rattle.operator.specs.Laws.{Meaning, Same}
use Rattle.run.specs.declared.Run.{Run}
use Rattle.run.specs.declared.Failure.{Failure}
use Rattle.run.specs.declared.Failure.TheVariants.{Refused, NoMemory}

-- n steps, none of which answers end, lead from s to t and answer these rows
pub data Took {S : Type 0} (m : Machine S) (s : S) : ℕ → List Row → S → Type 0 where
  no_step : Took m s 0 [] s
  row_step : {t u : S} {n : ℕ} {rows : List Row} (x : Row) → Took m s n rows t → m.next t ≡ row x u → Took m s (n + 1) (rows ++ (x ∷ [])) u
  busy_step : {t u : S} {n : ℕ} {rows : List Row} → Took m s n rows t → m.next t ≡ busy u → Took m s (n + 1) rows u

-- a number as a usize holds it
abbrev pub held : ℕ → ℕ
held n = min n 18446744073709551615

module _ {S : Type 0} (m : Machine S) (d : Meaning S) where
  -- the tree in the state s was run from its beginning to its end, and stands there in the state t
  pub record Ran (s t : S) (rows : List Row) (steps : ℕ) : Type 0 where
    pub few : m.operators s ≤ 16
    -- the rows are the whole list
    pub all : rows ≡ d.whole s
    -- they came in so many steps, at most the steps to go, and the next step answers end
    pub count : ℕ
    pub took : Took m (m.begin s) count rows t
    pub steps_is : steps ≡ held count
    pub within : count ≤ d.full s
    pub ended : m.next t ≡ end
    -- nothing is left, and it is the same tree, in good standing
    pub over : d.rest t ≡ []
    pub same : Same m s t
    pub good : Good m d.standing t

  -- an outsize tree is refused and stays; for want of memory a run breaks off
  abbrev pub Failed : S → S → Failure → Type 0
  Failed s t (Refused e) = (number e ≡ 4) × (16 < m.operators s) × (t ≡ s)
  Failed s t NoMemory = (m.operators s ≤ 16) × Same m s t × Good m d.standing t

  abbrev pub Runs : S → S → Result Run Failure → Type 0
  Runs s t (Ok run) = Ran s t (vec_items run.rows) run.steps
  Runs s t (Err f) = Failed s t f

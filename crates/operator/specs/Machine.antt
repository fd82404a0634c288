-- The machine of an operator: its rules as functions on states. Assumes nothing.
use Rattle.std.specs.Prelude.{◌≡◌, ℕ, ◌≤◌, List, Option}
use Rattle.refusal.specs.Numbers.{Fault}
use Rattle.codec.specs.declared.row.Row.{Row}
use Rattle.source.specs.Table.{Content}

-- one step: a row and the state behind it, a state with no row, or the end, where the operator stays
pub data Move (S : Type 0) : Type 0 where
  row : Row → S → Move S
  busy : S → Move S
  end : Move S

pub record Machine (S : Type 0) : Type 0 where
  -- the tree: its rows' width, its plan, what its sources hold in plan order, its operators and its keepers
  pub width : S → ℕ
  pub plan : S → List ℕ
  pub sources : S → List Content
  pub operators : S → ℕ
  pub keepers : S → ℕ
  -- the first fault, children before parents; the number is that of the operator itself
  pub flaw : S → ℕ → Option Fault
  -- a step, and the beginning
  pub next : S → Move S
  pub begin : S → S
  -- the record for a choice list, its two length bytes included, and the children's records for their parts of the list
  pub saved : S → List ℕ → List ℕ
  pub children : S → List ℕ → List (List ℕ)
  -- the state that a record stands for, and the rows that are fetched again on the way to it
  pub restored : S → List ℕ → Option S
  pub refetch : S → List ℕ → ℕ

-- good standing, in a tree of at most 16 operators: here the promises are owed
pub record Good {S : Type 0} (m : Machine S) (standing : S → Type 0) (s : S) : Type 0 where
  pub stands : standing s
  pub few : m.operators s ≤ 16

-- a new operator stands at its beginning, in good standing
pub record New {S : Type 0} (m : Machine S) (standing : S → Type 0) (s : S) : Type 0 where
  pub begins : s ≡ m.begin s
  pub stands : standing s

-- The meaning that every operator's machine keeps. Assumes nothing.
use Rattle.std.specs.Prelude.{◌≡◌, ℕ, ◌+◌, ◌*◌, ◌<◌, ◌≤◌, List, [], ◌∷◌, length, replicate, Some, None, Option}
use Rattle.std.specs.List.{AllByRecursion}
use Rattle.codec.specs.declared.row.Row.{Row}
use Rattle.codec.specs.Bytes.{of2}
use Rattle.codec.specs.Rows.{Wide}
use Rattle.plan.specs.Plans.{Planned}
use Rattle.operator.specs.declared.answer.Answer.{Answer}
use Rattle.operator.specs.declared.answer.Answer.TheVariants as answer
use Rattle.operator.specs.Machine.{Machine, Move, Good, row, busy, end}

-- the meaning of a machine's states: the whole list of rows, the rest, which are the rows still to come, the steps to
-- go, which are full at the beginning, the reading, which takes a record to the rows that it stands for, and good standing
pub record Meaning (S : Type 0) : Type 1 where
  pub whole : S → List Row
  pub rest : S → List Row
  pub full : S → ℕ
  pub togo : S → ℕ
  pub reading : S → List ℕ → Option (List Row)
  pub standing : S → Type 0

abbrev pub meaning : {S : Type 0} → (S → List Row) → (S → List Row) → (S → ℕ) → (S → ℕ) → (S → List ℕ → Option (List Row)) → (S → Type 0) → Meaning S
meaning whole rest full togo reading standing = record { whole = whole; rest = rest; full = full; togo = togo; reading = reading; standing = standing }

-- the same tree: no call changes its plan and what its sources hold
pub record Same {S : Type 0} (m : Machine S) (s t : S) : Type 0 where
  pub plan : m.plan t ≡ m.plan s
  pub sources : m.sources t ≡ m.sources s

-- how long some records are together
abbrev pub together : List (List ℕ) → ℕ
together [] = 0
together (bytes ∷ others) = length bytes + together others

module _ {S : Type 0} (m : Machine S) (d : Meaning S) where
  -- what the plan alone decides
  pub record ByPlan (s t : S) : Type 0 where
    pub width : m.width t ≡ m.width s
    pub operators : m.operators t ≡ m.operators s
    pub keepers : m.keepers t ≡ m.keepers s
    pub flaw : m.flaw t ≡ m.flaw s
    pub refetch : m.refetch t ≡ m.refetch s

  -- what the plan and the sources decide
  pub record Alike (s t : S) : Type 0 where
    pub whole : d.whole t ≡ d.whole s
    pub full : d.full t ≡ d.full s
    pub reading : d.reading t ≡ d.reading s
    pub begin : m.begin t ≡ m.begin s
    pub restored : m.restored t ≡ m.restored s

  -- in good standing a step leads to good standing; it takes the first row off the rest or leaves the rest, and the
  -- steps to go fall; it ends exactly where there are none, and then no row is left
  abbrev pub Meant : S → Move S → Type 0
  Meant s (row x t) = d.standing t × Same m s t × (d.rest s ≡ x ∷ d.rest t) × (d.togo t < d.togo s)
  Meant s (busy t) = d.standing t × Same m s t × (d.rest t ≡ d.rest s) × (d.togo t < d.togo s)
  Meant s end = (d.rest s ≡ []) × (d.togo s ≡ 0)

  -- the beginning is in good standing, and all is still to come
  pub record Begun (s t : S) : Type 0 where
    pub stands : d.standing t
    pub same : Same m s t
    pub rest : d.rest t ≡ d.whole s
    pub togo : d.togo t ≡ d.full s

  -- the state that a record stands for: its reading is to come, and with every choice set to go back the rows to
  -- fetch again are those of the record
  pub record Resumed (s : S) (bytes : List ℕ) (t : S) (rows : List Row) : Type 0 where
    pub stands : d.standing t
    pub same : Same m s t
    pub rest : d.rest t ≡ rows
    pub refetch : m.refetch t (m.saved t (replicate (m.keepers t) 2)) ≡ m.refetch s bytes
    pub wide : AllByRecursion (Wide (m.width s)) rows

  -- there is such a state exactly where there is a reading
  abbrev pub Read : S → List ℕ → Option S → Option (List Row) → Type 0
  Read s bytes None None = Unit {0}
  Read s bytes None (Some rows) = ⊥
  Read s bytes (Some t) None = ⊥
  Read s bytes (Some t) (Some rows) = Resumed s bytes t rows

  pub record Laws : Type 0 where
    -- trees with one plan, and trees with one plan and the same sources
    pub by_plan : (s t : S) → m.plan t ≡ m.plan s → ByPlan s t
    pub alike : (s t : S) → Same m s t → Alike s t
    -- all trees of one type have plans of one length, and as many sources
    pub shape : (s t : S) → (length (m.plan t) ≡ length (m.plan s)) × (length (m.sources t) ≡ length (m.sources s))
    -- the plan is exactly one tree by the table of kinds
    pub planned : (s : S) → Planned (m.operators s) (m.keepers s) (m.plan s)
    -- rows have 1 to 8 cells, and those to come have the width
    pub sized : (s : S) → (1 ≤ m.width s) × (m.width s ≤ 8)
    pub wide : (s : S) → Good m d.standing s → AllByRecursion (Wide (m.width s)) (d.rest s)
    -- steps and the beginning
    pub moves : (s : S) → Good m d.standing s → Meant s (m.next s)
    pub begins : (s : S) → Begun s (m.begin s)
    -- a record reads as the rest, whatever the choices
    pub readback : (s : S) (choices : List ℕ) → Good m d.standing s → d.reading s (m.saved s choices) ≡ Some (d.rest s)
    pub reads : (s : S) (bytes : List ℕ) → m.operators s ≤ 16 → Read s bytes (m.restored s bytes) (d.reading s bytes)
    -- a record begins with two bytes that name the length of what follows
    pub framed : (s : S) (choices : List ℕ) → Good m d.standing s → length (m.saved s choices) ≡ 2 + of2 (m.saved s choices)
    -- an operator adds at most 1,024 bytes to its children's records, so that a tree's record has at most 1,024 for each
    pub adds : (s : S) (choices : List ℕ) → Good m d.standing s → length (m.saved s choices) ≤ 1024 + together (m.children s choices)
    pub small : (s : S) (choices : List ℕ) → Good m d.standing s → length (m.saved s choices) ≤ 1024 * m.operators s
    -- at most 16 rows to fetch again for each byte
    pub few : (s : S) (bytes : List ℕ) → m.refetch s bytes ≤ 16 * length bytes

  -- a step in words of the meaning
  abbrev pub Told : S → Answer → S → Type 0
  Told s (answer.Row x) t = (d.rest s ≡ x ∷ d.rest t) × (d.togo t < d.togo s)
  Told s answer.Busy t = (d.rest t ≡ d.rest s) × (d.togo t < d.togo s)
  Told s answer.End t = (d.rest s ≡ []) × (d.togo s ≡ 0) × (t ≡ s)

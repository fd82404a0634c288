-- What the code of a block does, by its outer child's machine. Assumes nothing.
use Rattle.std.specs.Prelude.{◌≡◌, ℕ, ◌-◌, ◌*◌, ◌≤◌, Bool, List, length, Some, None, Ok, Err, Option, Result}
use Rattle.refusal.specs.declared.Refusal.{Refusal}
use Rattle.refusal.specs.Numbers.{number}
use Rattle.operator.specs.declared.operator.Operator.{Ghosts}
use Rattle.operator.specs.Machine.{Machine, Good}
use Rattle.operator.specs.Laws.{Meaning}
use Rattle.block.specs.declared.part.Stored.{Stored}
use Rattle.block.specs.declared.part.Stored.TheVariants as stored
use Rattle.block.specs.Kept.{Kept, kept_bytes}
use Rattle.block.specs.Held.{block_rows, contract_of}
use Rattle.keeper.specs.declared.outer.OuterBlock.{OuterBlock}
use Rattle.keeper.specs.Taking.{Taken, taken, kept_by, fetch, Stands}

-- the block of an outer child as lists
abbrev pub taken_of : {O : Type 0} → (g : Ghosts O) → OuterBlock O → Taken g.State
taken_of g b = taken (block_rows b.block) (contract_of b.contract) (g.state b.child)

-- good standing, in a tree of at most 16 operators
pub record Fine {S : Type 0} (m : Machine S) (d : Meaning S) (t : Taken S) : Type 0 where
  pub stands : Stands m d t
  pub few : m.operators t.child ≤ 16

-- how the block is recorded, for the child's part of a choice list
abbrev pub kept_for : {S : Type 0} → Machine S → Bool → List ℕ → Taken S → Kept
kept_for m back choices t = kept_by back t (m.saved t.child choices)

-- the bytes of that part
abbrev pub part_bytes : {S : Type 0} → Machine S → Bool → List ℕ → Taken S → List ℕ
part_bytes m back choices t = kept_bytes (m.width t.child) (kept_for m back choices t)

-- a part of a record that can be loaded: at most 16 rows, all of whose bytes are there, or a contract of at most 512 bytes
abbrev pub Loadable : ℕ → Stored → Type 0
Loadable v (stored.Dumped count rows outer) = (count ≤ 16) × (count * (4 * v) ≤ length rows.now)
Loadable v (stored.Owed count contract) = (count ≤ 16) × (length contract.now ≤ 512)

-- what is restored, or a refusal as unreadable
abbrev pub Restores : {A : Type 0} → Option A → Result (Unit {0}) Refusal → A → Type 0
Restores None (Ok u) t = ⊥
Restores None (Err e) t = number e ≡ 10
Restores (Some s) (Ok u) t = t ≡ s
Restores (Some s) (Err e) t = ⊥

-- on the way to so many rows: the rows so far, and what is still to fetch
pub record Fetching {S : Type 0} (m : Machine S) (d : Meaning S) (first : S) (all : Option (Taken S)) (count : ℕ) (t : Taken S) : Type 0 where
  pub begins : m.begin t.child ≡ first
  pub good : Good m d.standing t.child
  pub fits : length t.rows ≤ count
  pub fuel : ℕ
  pub enough : d.togo t.child ≤ fuel
  pub left : all ≡ fetch m.next fuel (count - length t.rows) t

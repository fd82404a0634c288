-- What a kind of operator over a block has to keep, so that the laws of its records follow. Assumes nothing.
use Rattle.std.specs.Prelude.{◌≡◌, ℕ, ◌+◌, ◌<◌, ◌≤◌, Bool, false, List, [], ◌++◌, length, Some, None, Option}
use Rattle.codec.specs.declared.row.Row.{Row}
use Rattle.plan.specs.Plans.{kinds, kind_parameters, kind_children, kind_keepers}
use Rattle.block.specs.Kept.{Of}
use Rattle.keeper.specs.Taking.{form_by}
use Rattle.keeper.specs.Keeping.{Lead, Kind, Sense}

-- the front of a record keeps the rules: it is shorter than the record, the count is at most the block size, and whatever
-- block is restored behind it keeps the rules of the stage
pub record OkLead {G : Type 0} (n : Sense G) (size w : ℕ) (bytes : List ℕ) (l : Lead G) : Type 0 where
  pub room : 2 + length l.behind ≤ length bytes
  pub count : l.count ≤ size
  pub ruled : (rows : List Row) (contract : Option (List ℕ)) → length rows ≡ l.count → (l.form ≡ 1 → contract ≡ None) → n.ruled size w l.stage rows contract

pub record Proper {G : Type 0} (k : Kind G) (n : Sense G) : Type 0 where
  -- its line in the table of kinds: eight parameter bytes, two children, a keeper
  pub some : 1 ≤ k.number
  pub listed : k.number < length kinds
  pub parameters : kind_parameters k.number ≡ 8
  pub children : kind_children k.number ≡ 2
  pub keeps : kind_keepers k.number ≡ 1
  -- rows have 1 to 8 cells
  pub sized : (v w : ℕ) → 1 ≤ v → v ≤ 8 → 1 ≤ w → w ≤ 8 → (1 ≤ k.width v w) × (k.width v w ≤ 8)
  -- the beginning keeps the rules, and no inner record is written there
  pub begins : (size w : ℕ) → n.ruled size w k.phases.empty [] None
  pub still : k.phases.scans k.phases.empty ≡ false
  -- a block has at most so many rows as its size says
  pub counted : (size w : ℕ) (g : G) (rows : List Row) (contract : Option (List ℕ)) → n.ruled size w g rows contract → length rows ≤ size
  -- the front of a record is short, and reads back as what was written
  pub short : (w form count : ℕ) (g : G) → w ≤ 8 → length (k.phases.lead w form count g) ≤ 64
  pub back : (size w : ℕ) (goes : Bool) (g : G) (rows : List Row) (contract : Option (List ℕ)) (behind : List ℕ) → size ≤ 16 → w ≤ 8 → n.ruled size w g rows contract
      → k.phases.leads size w (k.phases.lead w (form_by goes contract) (length rows) g ++ behind) ≡ Some (record { stage = g; form = form_by goes contract; count = length rows; behind = behind })
  pub read : (size w : ℕ) (bytes : List ℕ) → w ≤ 8 → Of (OkLead n size w bytes) (k.phases.leads size w bytes)

-- A block of an outer child's rows: how it fills, is recorded and is restored. Assumes nothing.
use Rattle.std.specs.Prelude.{◌≡◌, ℕ, zero, suc, ◌+◌, ◌≤◌, Bool, true, false, List, [], ◌∷◌, ◌++◌, length, replicate, Some, None, Option}
use Rattle.std.specs.List.{AllByRecursion}
use Rattle.codec.specs.declared.row.Row.{Row}
use Rattle.codec.specs.Bytes.{of2}
use Rattle.codec.specs.Frames.{then}
use Rattle.codec.specs.Rows.{Wide}
use Rattle.operator.specs.Machine.{Machine, Move, row, busy, end}
use Rattle.operator.specs.Laws.{Meaning}
use Rattle.block.specs.Kept.{Kept, dumped, owed}
use Rattle.block.specs.Held.{signed}

-- the rows taken since a contract was signed, the contract if one is held, and the child behind the rows
pub record Taken (S : Type 0) : Type 0 where
  pub rows : List Row
  pub contract : Option (List ℕ)
  pub child : S

abbrev pub taken : {S : Type 0} → List Row → Option (List ℕ) → S → Taken S
taken rows contract child = record { rows = rows; contract = contract; child = child }

-- no block and no contract
abbrev pub untaken : {S : Type 0} → S → Taken S
untaken x = taken [] None x

-- the child moved on
abbrev pub over : {S : Type 0} → Taken S → S → Taken S
over t x = taken t.rows t.contract x

-- and a row taken
abbrev pub with_row : {S : Type 0} → Taken S → Row → S → Taken S
with_row t b x = taken (t.rows ++ (b ∷ [])) t.contract x

-- a child's record with every choice set to go back
abbrev pub back_record : {S : Type 0} → Machine S → S → List ℕ
back_record m x = m.saved x (replicate (m.keepers x) 2)

-- a contract is signed with the child before the block's first row; it is held if it has at most 512 bytes
abbrev pub signing : {S : Type 0} → Machine S → S → Taken S
signing m x = taken [] (signed (back_record m x)) x

-- the contract by which to go back: none if the choice is to dump, or none is held
abbrev pub way_back : Bool → Option (List ℕ) → Option (List ℕ)
way_back true contract = contract
way_back false contract = None

-- how the block is recorded: by its rows and the child's record, or by a contract
abbrev pub kept_in : List Row → Option (List ℕ) → List ℕ → Kept
kept_in rows None outer = dumped rows outer
kept_in rows (Some contract) outer = owed (length rows) contract

abbrev pub kept_by : {S : Type 0} → Bool → Taken S → List ℕ → Kept
kept_by back t outer = kept_in t.rows (way_back back t.contract) outer

-- the form of such a record
abbrev pub form_in : Option (List ℕ) → ℕ
form_in None = 1
form_in (Some contract) = 2

abbrev pub form_by : Bool → Option (List ℕ) → ℕ
form_by back contract = form_in (way_back back contract)

-- the next row, or the next state without one; at the end there are too few rows
abbrev pub fetch_by : {S : Type 0} → Move S → (Row → S → Option (Taken S)) → (S → Option (Taken S)) → Option (Taken S)
fetch_by (row b x) f g = f b x
fetch_by (busy x) f g = g x
fetch_by end f g = None

-- the child is moved until n more rows came; the first number only bounds the moves
unfoldable pub fetch : {S : Type 0} → (S → Move S) → ℕ → ℕ → Taken S → Option (Taken S)
fetch next f zero t = Some t
fetch next zero (suc n) t = None
fetch next (suc f) (suc n) t = fetch_by (next t.child) (λ b x. fetch next f n (with_row t b x)) (λ x. fetch next f (suc n) (over t x))

-- the block restored, by the restoring of the child: dumped rows are there, owed rows are fetched again by the contract;
-- the child's steps to go bound the moves
abbrev pub rebuilt : {S : Type 0} → Machine S → (S → ℕ) → (List ℕ → Option S) → Kept → Option (Taken S)
rebuilt m steps restored (dumped rows outer) = then (restored outer) (λ x. Some (taken rows None x))
rebuilt m steps restored (owed count contract) = then (restored contract) (λ x. fetch m.next (steps x) count (taken [] (Some contract) x))

-- the rows to fetch again, by those of the child's records
abbrev pub refetch_kept : (List ℕ → ℕ) → Kept → ℕ
refetch_kept refetch (dumped rows outer) = refetch outer
refetch_kept refetch (owed count contract) = count + refetch contract

-- a contract held: one record of at most 512 bytes that reads as the rows taken since and the rows to come
pub record Signed (reading : List ℕ → Option (List Row)) (rows : List Row) (bytes : List ℕ) : Type 0 where
  pub one : length bytes ≡ 2 + of2 bytes
  pub short : length bytes ≤ 512
  pub reads : reading bytes ≡ Some rows

abbrev pub Holds : (List ℕ → Option (List Row)) → List Row → Option (List ℕ) → Type 0
Holds reading rows None = Unit {0}
Holds reading rows (Some bytes) = Signed reading rows bytes

-- good standing: the child's, that of the contract, and rows of the child's width
pub record Stands {S : Type 0} (m : Machine S) (d : Meaning S) (t : Taken S) : Type 0 where
  pub child : d.standing t.child
  pub holds : Holds (d.reading t.child) (t.rows ++ d.rest t.child) t.contract
  pub wide : AllByRecursion (Wide (m.width t.child)) t.rows

-- The block's part of a keeper's record: the rows and the outer record, or the contract. Assumes nothing.
use Rattle.std.specs.Prelude.{◌≡◌, ◌≢◌, ℕ, ◌+◌, ◌*◌, ◌≤◌, Bool, true, false, cond, List, ◌++◌, length, take, drop, Some, None, Option, Result, MatchResult, ◌==◌, nat_le}
use Rattle.std.specs.Borrow.{Bor}
use Rattle.codec.specs.declared.row.Row.{Row}
use Rattle.codec.specs.Bytes.{of2}
use Rattle.codec.specs.Frames.{then}
use Rattle.codec.specs.Rows.{rows_of}
use Rattle.block.specs.declared.part.Form.{Form}
use Rattle.block.specs.declared.part.Form.TheVariants as form
use Rattle.block.specs.declared.part.UnknownForm.{UnknownForm}
use Rattle.block.specs.declared.part.Stored.{Stored}
use Rattle.block.specs.declared.part.Stored.TheVariants as stored
use Rattle.block.specs.declared.part.Part.{Part}
use Rattle.block.specs.Places.{rows_bytes}

-- a block dumped, its rows and the outer child's record; or owed, so many rows to fetch again by a contract
pub data Kept : Type 0 where
  dumped : List Row → List ℕ → Kept
  owed : ℕ → List ℕ → Kept

abbrev pub kept_form : Kept → ℕ
kept_form (dumped rows outer) = 1
kept_form (owed count contract) = 2

-- the number of a form in a record
abbrev pub form_number : Form → ℕ
form_number form.Dumped = 1
form_number form.Owed = 2

-- the form with this number, or an error with a number that no form has
abbrev pub FormOf : ℕ → Result Form UnknownForm → Type 0
FormOf number r = MatchResult r (λ form. form_number form ≡ number) (λ e. (e.0 ≡ number) × ((form : Form) → form_number form ≢ number))

abbrev pub kept_count : Kept → ℕ
kept_count (dumped rows outer) = length rows
kept_count (owed count contract) = count

-- the outer child's record, of now or of the contract
abbrev pub kept_record : Kept → List ℕ
kept_record (dumped rows outer) = outer
kept_record (owed count contract) = contract

-- the bytes, for rows of the width v
abbrev pub kept_bytes : ℕ → Kept → List ℕ
kept_bytes v (dumped rows outer) = rows_bytes v rows ++ outer
kept_bytes v (owed count contract) = contract

-- only under a condition
abbrev pub when : {A : Type 0} → Bool → Option A → Option A
when b x = cond b x None

-- a property of the value, if there is one
abbrev pub Of : {A : Type 0} → (A → Type 0) → Option A → Type 0
Of P None = Unit {0}
Of P (Some a) = P a

-- a record off the front of bytes, its two length bytes included
pub record Cut : Type 0 where
  pub piece : List ℕ
  pub behind : List ℕ

unfoldable pub cut : List ℕ → Option Cut
cut bytes = when (nat_le (2 + of2 bytes) (length bytes)) (Some (record { piece = take (2 + of2 bytes) bytes; behind = drop (2 + of2 bytes) bytes }))

-- a record and what stands behind it, as the code has them
abbrev pub cut_of : Option (Bor (List ℕ) × Bor (List ℕ)) → Option Cut
cut_of None = None
cut_of (Some p) = Some (record { piece = p.0.now; behind = p.1.now })

-- whether bytes are one record and nothing more
abbrev pub one : List ℕ → Bool
one bytes = length bytes == 2 + of2 bytes

-- the block's part off the front of bytes
pub record Parted : Type 0 where
  pub kept : Kept
  pub behind : List ℕ

abbrev pub dumped_at : ℕ → ℕ → List ℕ → Option Parted
dumped_at v count bytes =
    when (nat_le (count * (4 * v)) (length bytes)) (then (cut (drop (count * (4 * v)) bytes)) (λ c. Some (record { kept = dumped (rows_of v count bytes) c.piece; behind = c.behind })))

-- a contract has at most 512 bytes
abbrev pub owed_at : ℕ → List ℕ → Option Parted
owed_at count bytes = then (cut bytes) (λ c. when (nat_le (length c.piece) 512) (Some (record { kept = owed count c.piece; behind = c.behind })))

-- by its form
unfoldable pub part_at : ℕ → ℕ → ℕ → List ℕ → Option Parted
part_at v form count bytes = cond (form == 1) (dumped_at v count bytes) (cond (form == 2) (owed_at count bytes) None)

-- behind the part stands one record, or nothing
abbrev pub tailed : Bool → List ℕ → Bool
tailed true behind = one behind
tailed false behind = length behind == 0

-- the block's part and what has to stand behind it, and nothing more
unfoldable pub parted : Bool → ℕ → ℕ → ℕ → List ℕ → Option Parted
parted tail v form count bytes = then (part_at v form count bytes) (λ p. when (tailed tail p.behind) (Some p))

-- a part as the code has it
abbrev pub kept_of : ℕ → Stored → Kept
kept_of v (stored.Dumped count rows outer) = dumped (rows_of v count rows.now) outer.now
kept_of v (stored.Owed count contract) = owed count contract.now

-- the bytes suffice for the rows
abbrev pub Enough : ℕ → Stored → Type 0
Enough v (stored.Dumped count rows outer) = count * (4 * v) ≤ length rows.now
Enough v (stored.Owed count contract) = Unit {0}

abbrev pub AllEnough : ℕ → Option Part → Type 0
AllEnough v None = Unit {0}
AllEnough v (Some p) = Enough v p.stored

abbrev pub part_of : ℕ → Part → Parted
part_of v p = record { kept = kept_of v p.stored; behind = p.behind.now }

abbrev pub parts_of : ℕ → Option Part → Option Parted
parts_of v None = None
parts_of v (Some p) = Some (part_of v p)

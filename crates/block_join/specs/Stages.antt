-- Where a block join stands in its phases, and how its record says so. Assumes nothing.
use Rattle.std.specs.Prelude.{ℕ, ◌+◌, ◌*◌, min, Bool, true, false, cond, List, [], ◌∷◌, ◌++◌, length, drop, Some, None, Option, ◌==◌, nat_le, nat_lt}
use Rattle.codec.specs.declared.row.Row.{Row}
use Rattle.codec.specs.Rows.{row_bytes, row_of}
use Rattle.pairing.specs.Terms.{join_flaw}
use Rattle.block.specs.Kept.{when}
use Rattle.keeper.specs.Keeping.{Lead, Kind}

-- phase 0; phase 1; phase 2 without an inner row held; phase 2 with one, and the next index into the block
pub data Stage : Type 0 where
  empty : Stage
  filling : Stage
  scanning : Stage
  matching : Row → ℕ → Stage

-- in phase 2 the inner child's record is written
abbrev pub within_scan : Stage → Bool
within_scan empty = false
within_scan filling = false
within_scan scanning = true
within_scan (matching held j) = true

-- the phase; the form, in phase 0 it is 0; the count of rows; in phase 2 the inner row, or none, and the index
abbrev pub lead : ℕ → ℕ → ℕ → Stage → List ℕ
lead w form count empty = 0 ∷ (0 ∷ [])
lead w form count filling = 1 ∷ (form ∷ (count ∷ []))
lead w form count scanning = 2 ∷ (form ∷ (count ∷ (0 ∷ (0 ∷ []))))
lead w form count (matching held j) = 2 ∷ (form ∷ (count ∷ (1 ∷ (row_bytes w held ++ (j ∷ [])))))

abbrev pub led : Stage → ℕ → ℕ → List ℕ → Option (Lead Stage)
led g form count behind = Some (record { stage = g; form = form; count = count; behind = behind })

-- behind the inner row: the index, at most the count
abbrev pub index_at : ℕ → ℕ → Row → List ℕ → Option (Lead Stage)
index_at form count held [] = None
index_at form count held (j ∷ behind) = when (nat_le j count) (led (matching held j) form count behind)

-- behind the count in phase 2: 0 and the index 0, or 1, an inner row and the index
abbrev pub held_at : ℕ → ℕ → ℕ → List ℕ → Option (Lead Stage)
held_at w form count [] = None
held_at w form count (mark ∷ []) = None
held_at w form count (mark ∷ (j ∷ behind)) =
    cond (mark == 0) (when (j == 0) (led scanning form count behind))
    (when (mark == 1) (when (nat_le (4 * w) (length (j ∷ behind))) (index_at form count (row_of w (j ∷ behind)) (drop (4 * w) (j ∷ behind)))))

-- behind phase and form: the count, in phase 1 below the block size, in phase 2 from 1 to it
abbrev pub counts_at : ℕ → ℕ → ℕ → ℕ → List ℕ → Option (Lead Stage)
counts_at size w phase form [] = None
counts_at size w phase form (count ∷ behind) =
    cond (phase == 1) (when (nat_lt count size) (led filling form count behind))
    (when (phase == 2) (when (nat_lt 0 count) (when (nat_le count size) (held_at w form count behind))))

-- in phase 0 the form is 0, and the outer child's record stands behind it as that of a dumped block without rows
unfoldable pub leads : ℕ → ℕ → List ℕ → Option (Lead Stage)
leads size w [] = None
leads size w (phase ∷ []) = None
leads size w (phase ∷ (form ∷ behind)) = cond (phase == 0) (when (form == 0) (led empty 1 0 behind)) (counts_at size w phase form behind)

-- kind 3: outer cells, then inner cells, eight at most
abbrev pub join_kind : Kind Stage
join_kind = record {
  number = 3;
  width = λ v w. min 8 (v + w);
  flaw = join_flaw;
  phases = record { empty = empty; scans = within_scan; lead = lead; leads = leads };
}

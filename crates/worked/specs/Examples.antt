-- Worked examples: bytes, rows and states written out. Assumes nothing.
use Rattle.std.specs.Prelude.{◌≡◌, ℕ, zero, suc, List, [], ◌∷◌, ◌++◌, ℤ, pos, negsuc, Some, None}
use Rattle.refusal.specs.Numbers.{fault_at}
use Rattle.codec.specs.declared.row.Row.{Row}
use Rattle.codec.specs.Bytes.{cell_word}
use Rattle.source.specs.Images.{TableImage, image_table}
use Rattle.source.specs.Ramps.{RampFits, ramp_table}
use Rattle.operator.specs.Machine.{Machine, Move, row, busy, end}
use Rattle.scan.specs.Scanning.{Scanning, at, scan_machine, scan_meaning}
use Rattle.filter.specs.Condition.{above}
use Rattle.filter.specs.Filtering.{Filtering, filtering, filter_machine, filter_meaning}

-- the state after n steps, or at the end
abbrev pub arrived : {S : Type 0} → S → Move S → S
arrived s (row x t) = t
arrived s (busy t) = t
arrived s end = s

abbrev pub after : {S : Type 0} → Machine S → ℕ → S → S
after m zero s = s
after m (suc n) s = after m n (arrived s (m.next s))

-- a row of two cells
abbrev pub pair : ℤ → ℤ → Row
pair a b = record { cells = a ∷ b ∷ pos 0 ∷ pos 0 ∷ pos 0 ∷ pos 0 ∷ pos 0 ∷ pos 0 ∷ [] }

-- the image of the table P: (3,-200), (4,0), (5,150)
abbrev pub image_p : List ℕ
image_p =
    0x01 ∷ 0x00 ∷ 0x03 ∷ 0x02
    ∷ 0x00 ∷ 0x00 ∷ 0x00 ∷ 0x03 ∷ 0xFF ∷ 0xFF ∷ 0xFF ∷ 0x38
    ∷ 0x00 ∷ 0x00 ∷ 0x00 ∷ 0x04 ∷ 0x00 ∷ 0x00 ∷ 0x00 ∷ 0x00
    ∷ 0x00 ∷ 0x00 ∷ 0x00 ∷ 0x05 ∷ 0x00 ∷ 0x00 ∷ 0x00 ∷ 0x96 ∷ []

-- an image without rows
abbrev pub no_image_rows : List ℕ
no_image_rows = 0x01 ∷ 0x00 ∷ 0x00 ∷ 0x02 ∷ []

-- a scan of P, and P by a cell above 0
abbrev pub scan_p : Scanning
scan_p = at (image_table image_p) 0

abbrev pub filter_p : ℕ → ℕ → Filtering Scanning
filter_p cell condition = filtering scan_p cell condition (cell_word (pos 0))

pub record Examples : Type 0 where
  -- images
  pub image : TableImage image_p
  pub image_rows : (image_table image_p).content ≡ pair (pos 3) (negsuc 199) ∷ pair (pos 4) (pos 0) ∷ pair (pos 5) (pos 150) ∷ []
  pub byte_more : TableImage (image_p ++ (0x00 ∷ [])) → ⊥
  pub empty_image : TableImage no_image_rows
  pub empty_rows : (image_table no_image_rows).content ≡ []
  -- ramps
  pub ramp : RampFits (negsuc 199) (pos 175) 3
  pub ramp_rows : (ramp_table (negsuc 199) (pos 175) 3).content ≡ pair (pos 0) (negsuc 199) ∷ pair (pos 1) (negsuc 24) ∷ pair (pos 2) (pos 150) ∷ []
  pub ramp_top : RampFits (pos 2147483647) (pos 1) 1
  pub ramp_over : RampFits (pos 2147483647) (pos 1) 2 → ⊥
  -- a scan
  pub scan_plan : scan_machine.plan scan_p ≡ 0x01 ∷ 0x02 ∷ 0x00 ∷ 0x03 ∷ []
  pub scan_record : scan_machine.saved (after scan_machine 1 scan_p) [] ≡ 0x00 ∷ 0x02 ∷ 0x00 ∷ 0x01 ∷ []
  pub scan_last : scan_meaning.reading scan_p (0x00 ∷ 0x02 ∷ 0x00 ∷ 0x03 ∷ []) ≡ Some []
  pub scan_beyond : scan_meaning.reading scan_p (0x00 ∷ 0x02 ∷ 0x00 ∷ 0x04 ∷ []) ≡ None
  -- a filter
  pub filter_rows : (filter_meaning scan_meaning).whole (filter_p 1 above) ≡ pair (pos 5) (pos 150) ∷ []
  pub filter_plan : (filter_machine scan_machine).plan (filter_p 1 above) ≡ 0x02 ∷ 0x01 ∷ 0x3E ∷ 0x00 ∷ 0x00 ∷ 0x00 ∷ 0x00 ∷ 0x01 ∷ 0x02 ∷ 0x00 ∷ 0x03 ∷ []
  pub filter_record : (filter_machine scan_machine).saved (after (filter_machine scan_machine) 2 (filter_p 1 above)) [] ≡ 0x00 ∷ 0x04 ∷ 0x00 ∷ 0x02 ∷ 0x00 ∷ 0x02 ∷ []
  pub filter_misfit : (filter_machine scan_machine).flaw (filter_p 2 above) 0 ≡ Some (fault_at 1 0)
  pub filter_unknown : (filter_machine scan_machine).flaw (filter_p 1 63) 0 ≡ Some (fault_at 3 0)

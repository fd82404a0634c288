-- Table images: version byte 1, count (2 bytes), width (1), then the rows, and nothing more. Assumes nothing.
use Rattle.std.specs.Prelude.{◌≡◌, ℕ, ◌+◌, ◌*◌, ◌≤◌, Bool, cond, ◌&&◌, List, length, drop, ◌==◌, nat_le, slice_index, slice_index_or}
use Rattle.codec.specs.Bytes.{of2}
use Rattle.codec.specs.Rows.{rows_of}
use Rattle.source.specs.Table.{Content, Table, table_of, no_rows}

-- the count and the width that the bytes name
abbrev pub named_count : List ℕ → ℕ
named_count bs = of2 (drop 1 bs)

abbrev pub named_width : List ℕ → ℕ
named_width bs = slice_index bs 3

-- the rows behind them
abbrev pub named_rows : List ℕ → Content
named_rows bs = rows_of (named_width bs) (named_count bs) (drop 4 bs)

-- the rule of a table image
pub record TableImage (bs : List ℕ) : Type 0 where
  pub version : slice_index_or bs 0 0 ≡ 1
  pub some : 1 ≤ named_width bs
  pub narrow : named_width bs ≤ 8
  pub few : named_count bs ≤ 4096
  pub whole : length bs ≡ 4 + named_count bs * (4 * named_width bs)

-- the same as a test
unfoldable pub is_image : List ℕ → Bool
is_image bs =
    (slice_index bs 0 == 1) && (nat_le 1 (named_width bs) && (nat_le (named_width bs) 8 && (nat_le (named_count bs) 4096
    && length bs == 4 + named_count bs * (4 * named_width bs))))

-- the meaning of the bytes
unfoldable pub image_table : List ℕ → Table
image_table bs = cond (is_image bs) (table_of (named_width bs) (named_rows bs)) (no_rows 1)

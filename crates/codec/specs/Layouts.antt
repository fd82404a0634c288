-- What is written reads back as itself, and what is read is written back as itself. Assumes nothing.
use Rattle.std.specs.Prelude.{◌≡◌, ℕ, ◌*◌, ◌^◌, ◌<◌, ◌≤◌, List, ◌++◌, length, ℤ, Some, FitsSigned}
use Rattle.std.specs.Int.{w32}
use Rattle.std.specs.List.{AllByRecursion}
use Rattle.codec.specs.declared.row.Row.{Row}
use Rattle.codec.specs.Bytes.{be2, be4, of2, of4, cell_bytes, cell_of}
use Rattle.codec.specs.Frames.{framed, body}
use Rattle.codec.specs.Rows.{Wide, row_bytes, row_of}

abbrev pub Byte : ℕ → Type 0
Byte b = b < 256

pub record ReadBack : Type 0 where
  pub number2 : (n : ℕ) → n < 2 ^ 16 → of2 (be2 n) ≡ n
  pub number4 : (n : ℕ) → n < 2 ^ 32 → of4 (be4 n) ≡ n
  pub bytes2 : (bs : List ℕ) → AllByRecursion Byte bs → length bs ≡ 2 → be2 (of2 bs) ≡ bs
  pub bytes4 : (bs : List ℕ) → AllByRecursion Byte bs → length bs ≡ 4 → be4 (of4 bs) ≡ bs
  pub cell : (z : ℤ) → FitsSigned w32 z → cell_of (cell_bytes z) ≡ z
  pub cell_back : (bs : List ℕ) → AllByRecursion Byte bs → length bs ≡ 4 → cell_bytes (cell_of bs) ≡ bs
  pub row : (w : ℕ) (r : Row) (behind : List ℕ) → w ≤ 8 → Wide w r → row_of w (row_bytes w r ++ behind) ≡ r
  pub row_back : (w : ℕ) (bs : List ℕ) → AllByRecursion Byte bs → length bs ≡ 4 * w → w ≤ 8 → row_bytes w (row_of w bs) ≡ bs
  pub frame : (bs : List ℕ) → length bs < 65536 → body (framed bs) ≡ Some bs
  pub frame_back : (bs inside : List ℕ) → AllByRecursion Byte bs → body bs ≡ Some inside → framed inside ≡ bs

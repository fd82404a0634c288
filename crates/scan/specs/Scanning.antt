-- The machine of a scan, and its meaning: the rows of its source from its position on. Assumes nothing.
use Rattle.std.specs.Prelude.{ℕ, ◌+◌, ◌-◌, ◌≤◌, cond, List, [], ◌∷◌, length, drop, Some, None, Option, nat_le}
use Rattle.codec.specs.declared.row.Row.{Row}
use Rattle.codec.specs.Bytes.{be2}
use Rattle.codec.specs.Frames.{framed, body, number, then}
use Rattle.source.specs.Table.{Content, Table}
use Rattle.operator.specs.Machine.{Machine, Move, row, end}
use Rattle.operator.specs.Laws.{Meaning}

-- what the source holds, and the position of the next row
pub record Scanning : Type 0 where
  pub table : Table
  pub position : ℕ

abbrev pub at : Table → ℕ → Scanning
at t p = record { table = t; position = p }

-- a step, from the rows that are left: the first of them, and on by one
abbrev pub taken : Scanning → Content → Move Scanning
taken s [] = end
taken s (x ∷ xs) = row x (at s.table (s.position + 1))

-- a position is at most the count
abbrev pub placed : Table → ℕ → Option Scanning
placed t p = cond (nat_le p (length t.content)) (Some (at t p)) None

abbrev pub rows_from : Content → ℕ → Option (List Row)
rows_from rows p = cond (nat_le p (length rows)) (Some (drop p rows)) None

abbrev pub scan_machine : Machine Scanning
scan_machine = record {
  width = λ s. s.table.width;
  plan = λ s. 1 ∷ (s.table.width ∷ be2 (length s.table.content));
  sources = λ s. s.table.content ∷ [];
  operators = λ s. 1;
  keepers = λ s. 0;
  flaw = λ s k. None;
  next = λ s. taken s (drop s.position s.table.content);
  begin = λ s. at s.table 0;
  saved = λ s choices. framed (be2 s.position);
  children = λ s choices. [];
  restored = λ s bytes. then (then (body bytes) number) (placed s.table);
  refetch = λ s bytes. 0;
}

abbrev pub scan_meaning : Meaning Scanning
scan_meaning = record {
  whole = λ s. s.table.content;
  rest = λ s. drop s.position s.table.content;
  full = λ s. length s.table.content;
  togo = λ s. length s.table.content - s.position;
  reading = λ s bytes. then (then (body bytes) number) (rows_from s.table.content);
  standing = λ s. s.position ≤ length s.table.content;
}

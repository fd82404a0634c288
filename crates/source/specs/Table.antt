-- What a source means: a width and at most 4,096 rows of that width. Assumes nothing.
use Rattle.std.specs.Prelude.{◌≡◌, ℕ, ◌≤◌, min, max, Bool, true, false, ◌&&◌, List, [], ◌∷◌, length, nat_le, refl}
use Rattle.std.proofs.Common.{arith}
use Rattle.std.specs.List.{AllByRecursion}
use Rattle.std.proofs.lemmas.Bool.{and_from, le-leb}
use Rattle.codec.specs.declared.row.Row.{Row}
use Rattle.codec.specs.Rows.{Wide, wide}

-- what a source holds; this alone says of what its content is made
abbrev pub Content : Type 0
Content = List Row

-- the rule of every source
pub record Sound (w : ℕ) (rows : Content) : Type 0 where
  pub some : 1 ≤ w
  pub narrow : w ≤ 8
  pub few : length rows ≤ 4096
  pub wide : AllByRecursion (Wide w) rows

-- the same as a test
abbrev pub all_wide : ℕ → Content → Bool
all_wide w [] = true
all_wide w (r ∷ rows) = wide w r && all_wide w rows

unfoldable pub sound : ℕ → Content → Bool
sound w rows = nat_le 1 w && (nat_le w 8 && (nat_le (length rows) 4096 && all_wide w rows))

-- the meaning of a source; the rule stands as one equation of Bool, so that equal width and content make equal tables
pub record Table : Type 0 where
  pub width : ℕ
  pub content : Content
  pub ok : sound width content ≡ true

-- the nearest width that a row can have
abbrev pub row_width : ℕ → ℕ
row_width w = max 1 (min 8 w)

-- no rows, which is what stands for a content that breaks the rule
unfoldable pub no_rows : ℕ → Table
unfolding sound
no_rows w = record {
  width = row_width w;
  content = [];
  ok = and_from (nat_le 1 (row_width w)) _ (le-leb 1 (row_width w) (omega arith)) (and_from (nat_le (row_width w) 8) _ (le-leb (row_width w) 8 (omega arith)) refl);
}

abbrev pub table_by : (w : ℕ) (rows : Content) (b : Bool) → sound w rows ≡ b → Table
table_by w rows true e = record { width = w; content = rows; ok = e }
table_by w rows false e = no_rows w

-- the table of that width and content, if they keep the rule
unfoldable pub table_of : ℕ → Content → Table
table_of w rows = table_by w rows (sound w rows) refl

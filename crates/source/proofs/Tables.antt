-- Tables keep the rule of sources, and are equal where width and content are. Assumes nothing.
use Rattle.std.proofs.Common.{◌≡◌, ℕ, ◌≤◌, Bool, true, false, leb, [], length, Decides, sym, refl, ap, ◌∙◌, subst, arith}
use mathlib.Core.Bool.{Bool-set}
use Rattle.std.proofs.lemmas.Bool.{leb-true, le-leb}
use Rattle.std.proofs.lemmas.Bool.Decides.{Decides-and, Decides-like, not_from_Decides}
use Rattle.std.proofs.ByRecursion.{Decides-by_and}
use Rattle.codec.specs.Rows.{Wide, wide}
use Rattle.codec.proofs.Rows.{decides_wide}
use Rattle.source.specs.Table.{Content, Sound, all_wide, sound, Table, row_width, no_rows, table_by, table_of}

pub decides_leb : (a b : ℕ) → Decides (leb a b) (a ≤ b)
decides_leb a b = (leb-true a b, le-leb a b)

-- the test decides the rule
pub decides_sound : (w : ℕ) (rows : Content) → Decides (sound w rows) (Sound w rows)
unfolding sound
decides_sound w rows =
    Decides-like (sound w rows)
    (λ p. record { some = p.0; narrow = p.1.0; few = p.1.1.0; wide = p.1.1.1 })
    (λ h. (h.some, (h.narrow, (h.few, h.wide))))
    (Decides-and (leb 1 w) _ (decides_leb 1 w) (Decides-and (leb w 8) _ (decides_leb w 8) (Decides-and (leb (length rows) 4096) (all_wide w rows) (decides_leb (length rows) 4096)
    (Decides-by_and (wide w) (Wide w) (all_wide w) (decides_wide w) refl (λ _ _. refl) rows))))

-- a table keeps it
pub keeps : (t : Table) → Sound t.width t.content
keeps t = (decides_sound t.width t.content).0 t.ok

record Of (w : ℕ) (rows : Content) (t : Table) : Type 0 where
  is_width : t.width ≡ w
  is_content : t.content ≡ rows

made : (w : ℕ) (rows : Content) (b : Bool) (e : sound w rows ≡ b) → Sound w rows → Of w rows (table_by w rows b e)
made w rows true e h = record { is_width = refl; is_content = refl }
made w rows false e h = absurd (not_from_Decides (sound w rows) (decides_sound w rows) e h)

-- the table of a sound width and content has them
pub table_content : (w : ℕ) (rows : Content) → Sound w rows → (table_of w rows).content ≡ rows
unfolding table_of
table_content w rows h = (made w rows (sound w rows) refl h).is_content

pub no_content : (w : ℕ) → (no_rows w).content ≡ []
unfolding no_rows
no_content w = refl

pub no_width : (w : ℕ) → (no_rows w).width ≡ row_width w
unfolding no_rows
no_width w = refl

-- rows that break the rule are none
broken : (w : ℕ) (rows : Content) (b : Bool) (e : sound w rows ≡ b) → (Sound w rows → ⊥) → (table_by w rows b e).content ≡ []
broken w rows true e h = absurd (h ((decides_sound w rows).0 e))
broken w rows false e h = no_content w

pub table_broken : (w : ℕ) (rows : Content) → (Sound w rows → ⊥) → (table_of w rows).content ≡ []
unfolding table_of
table_broken w rows h = broken w rows (sound w rows) refl h

-- any row's width is kept
kept : (w : ℕ) (rows : Content) (b : Bool) (e : sound w rows ≡ b) → 1 ≤ w → w ≤ 8 → (table_by w rows b e).width ≡ w
kept w rows true e h k = refl
kept w rows false e h k = no_width w ∙ omega arith

pub table_width : (w : ℕ) (rows : Content) → 1 ≤ w → w ≤ 8 → (table_of w rows).width ≡ w
unfolding table_of
table_width w rows h k = kept w rows (sound w rows) refl h k

-- equal width and content make equal tables
same_at : (w : ℕ) (rows : Content) (e f : sound w rows ≡ true) → ◌≡◌ {A = Table} (record { width = w; content = rows; ok = e }) (record { width = w; content = rows; ok = f })
same_at w rows e f = ap (λ (p : sound w rows ≡ true). record { width = w; content = rows; ok = p }) (Bool-set (sound w rows) true e f)

same_rows : (w : ℕ) (rows rows' : Content) → rows' ≡ rows → (e : sound w rows ≡ true) (f : sound w rows' ≡ true) → ◌≡◌ {A = Table} (record { width = w; content = rows'; ok = f }) (record { width = w; content = rows; ok = e })
same_rows w rows rows' q =
    let P : Content → Type 0 = λ r. (e : sound w rows ≡ true) (f : sound w r ≡ true) → ◌≡◌ {A = Table} (record { width = w; content = r; ok = f }) (record { width = w; content = rows; ok = e }) in
    subst P (sym q) (λ e f. same_at w rows f e)

same_width : (w w' : ℕ) (rows rows' : Content) → w' ≡ w → rows' ≡ rows → (e : sound w rows ≡ true) (f : sound w' rows' ≡ true) → ◌≡◌ {A = Table} (record { width = w'; content = rows'; ok = f }) (record { width = w; content = rows; ok = e })
same_width w w' rows rows' p q =
    let P : ℕ → Type 0 = λ v. (e : sound w rows ≡ true) (f : sound v rows' ≡ true) → ◌≡◌ {A = Table} (record { width = v; content = rows'; ok = f }) (record { width = w; content = rows; ok = e }) in
    subst P (sym p) (same_rows w rows rows' q)

pub table_same : (s t : Table) → t.width ≡ s.width → t.content ≡ s.content → t ≡ s
table_same s t p q = same_width s.width t.width s.content t.content p q s.ok t.ok

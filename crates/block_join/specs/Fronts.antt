-- The front of a block join's record: what is written reads back, and what is read keeps the rules. Assumes nothing.
use Rattle.std.proofs.Common.{◌≡◌, ℕ, ◌+◌, ◌*◌, ◌<◌, ◌≤◌, Bool, true, false, eqb, ltb, leb, List, [], ◌∷◌, ◌++◌, length, drop, Some, None, Option, sym, refl, ap, ◌∙◌, append_assoc, arith, length-append, length-drop}
use Rattle.std.proofs.lemmas.List.{drop_at, nil_from_length}
use Rattle.std.proofs.lemmas.Bool.{leb-true, ltb-true, le-leb, lt-ltb}
use Rattle.codec.specs.declared.row.Row.{Row}
use Rattle.codec.specs.Rows.{Wide, row_bytes, row_of}
use Rattle.codec.proofs.Rows.{row_wide, row_back, row_bytes_length}
use Rattle.block.specs.Kept.{Of}
use Rattle.block.proofs.Options.{of_when, of_cond, when_so}
use Rattle.block.proofs.Places.{row_short}
use Rattle.keeper.specs.Taking.{form_by}
use Rattle.keeper.specs.Keeping.{Lead}
use Rattle.keeper.specs.Proper.{OkLead, Proper}
use Rattle.block_join.specs.Stages.{Stage, empty, filling, scanning, matching, lead, index_at, held_at, counts_at, leads, join_kind}
use Rattle.block_join.specs.Joining.{Ruled, join_sense}

module _ (size w : ℕ) (all : List ℕ) (hw : w ≤ 8) where
  abbrev Ok : Lead Stage → Type 0
  Ok l = OkLead join_sense size w all l

  index_ok : (form count : ℕ) (held : Row) (bytes : List ℕ) → 0 < count → count ≤ size → Wide w held → 2 + length bytes ≤ length all → Of Ok (index_at form count held bytes)
  index_ok form count held [] lo hi h room = tt
  index_ok form count held (j ∷ behind) lo hi h room = of_when Ok (leb j count) _ (λ t. record {
    room = omega arith;
    count = hi;
    ruled = λ rows c e f. (omega arith, omega arith, omega (arith, leb-true j count t), h);
  })

  held_ok : (form count : ℕ) (bytes : List ℕ) → 0 < count → count ≤ size → 2 + length bytes ≤ length all → Of Ok (held_at w form count bytes)
  held_ok form count [] lo hi room = tt
  held_ok form count (mark ∷ []) lo hi room = tt
  held_ok form count (mark ∷ (j ∷ behind)) lo hi room =
      of_cond Ok (eqb mark 0) _ _
      (λ t. of_when Ok (eqb j 0) _ (λ u. record { room = omega arith; count = hi; ruled = λ rows c e f. (omega arith, omega arith) }))
      (λ t. of_when Ok (eqb mark 1) _ (λ u. of_when Ok (leb (4 * w) (length (j ∷ behind))) _ (λ z.
      index_ok form count (row_of w (j ∷ behind)) (drop (4 * w) (j ∷ behind)) lo hi (row_wide w (j ∷ behind) hw) (omega (arith, length-drop (4 * w) (j ∷ behind))))))

  counted_ok : (phase form : ℕ) (bytes : List ℕ) → 2 + length bytes ≤ length all → Of Ok (counts_at size w phase form bytes)
  counted_ok phase form [] room = tt
  counted_ok phase form (count ∷ behind) room =
      of_cond Ok (eqb phase 1) _ _
      (λ t. of_when Ok (ltb count size) _ (λ u. let lt = ltb-true count size u in record { room = omega arith; count = omega arith; ruled = λ rows c e f. omega arith }))
      (λ t. of_when Ok (eqb phase 2) _ (λ u. of_when Ok (ltb 0 count) _ (λ y. of_when Ok (leb count size) _ (λ z. held_ok form count behind (ltb-true 0 count y) (leb-true count size z) (omega arith)))))

read : (size w : ℕ) (bytes : List ℕ) → w ≤ 8 → Of (OkLead join_sense size w bytes) (leads size w bytes)
unfolding leads
read size w [] hw = tt
read size w (phase ∷ []) hw = tt
read size w (phase ∷ (form ∷ behind)) hw =
    of_cond _ (eqb phase 0) _ _
    (λ t. of_when _ (eqb form 0) _ (λ u. record { room = omega arith; count = omega arith; ruled = λ rows c e f. (nil_from_length rows e, f refl) }))
    (λ t. counted_ok size w (phase ∷ (form ∷ behind)) hw phase form behind (omega arith))

held_row : (w form count : ℕ) (bytes : List ℕ) → 4 * w ≤ length bytes → 0 < length bytes → held_at w form count (1 ∷ bytes) ≡ index_at form count (row_of w bytes) (drop (4 * w) bytes)
held_row w form count [] h k = absurd (omega arith)
held_row w form count (j ∷ bytes) h k = when_so _ _ (le-leb _ _ h)

none_owed : (goes : Bool) (c : Option (List ℕ)) → c ≡ None → form_by goes c ≡ 1
none_owed true c e = rw e
none_owed false c e = refl

back : (size w : ℕ) (goes : Bool) (g : Stage) (rows : List Row) (c : Option (List ℕ)) (behind : List ℕ) → size ≤ 16 → w ≤ 8 → Ruled size w g rows c
    → leads size w (lead w (form_by goes c) (length rows) g ++ behind) ≡ Some (record { stage = g; form = form_by goes c; count = length rows; behind = behind })
unfolding leads
back size w goes empty rows c behind hs hw (e, f) =
    ap (λ (a : ℕ). Some (record { stage = empty; form = a; count = 0; behind = behind })) (sym (none_owed goes c f)) ∙ ap (λ (b : ℕ). Some (record { stage = empty; form = form_by goes c; count = b; behind = behind })) (sym (ap length e))
back size w goes filling rows c behind hs hw h = when_so _ _ (lt-ltb _ _ h)
back size w goes scanning rows c behind hs hw (lo, hi) = when_so _ _ (lt-ltb _ _ lo) ∙ when_so _ _ (le-leb _ _ hi)
back size w goes (matching held j) rows c behind hs hw (lo, hi, k, wide) =
    let n = row_bytes_length w held wide.eight hw in
    let q = append_assoc (row_bytes w held) (j ∷ []) behind in
    let f = form_by goes c in
    when_so _ _ (lt-ltb _ _ lo) ∙ when_so _ _ (le-leb _ _ hi)
    ∙ ap (λ (l : List ℕ). held_at w f (length rows) (1 ∷ l)) q
    ∙ held_row w f (length rows) (row_bytes w held ++ (j ∷ behind)) (simp length-append (omega arith)) (simp length-append (omega arith))
    ∙ ap (λ (x : Row). index_at f (length rows) x (drop (4 * w) (row_bytes w held ++ (j ∷ behind)))) (row_back w held (j ∷ behind) hw wide)
    ∙ ap (index_at f (length rows) held) (drop_at (row_bytes w held) (j ∷ behind) (4 * w) n)
    ∙ when_so _ _ (le-leb _ _ k)

short : (w form count : ℕ) (g : Stage) → w ≤ 8 → length (lead w form count g) ≤ 64
short w form count empty h = omega arith
short w form count filling h = omega arith
short w form count scanning h = omega arith
short w form count (matching held j) h = simp length-append (omega (arith, row_short w held h))

counted : (size w : ℕ) (g : Stage) (rows : List Row) (c : Option (List ℕ)) → Ruled size w g rows c → length rows ≤ size
counted size w empty rows c (e, f) = omega (arith, ap length e)
counted size w filling rows c h = omega arith
counted size w scanning rows c (lo, hi) = hi
counted size w (matching held j) rows c (lo, hi, k, wide) = hi

pub proper : Proper join_kind join_sense
proper = record {
  some = omega arith;
  listed = omega arith;
  parameters = refl;
  children = refl;
  keeps = refl;
  sized = λ v w a b c e. (omega arith, omega arith);
  begins = λ size w. (refl, refl);
  still = refl;
  counted = counted;
  short = short;
  back = back;
  read = read;
}

-- The cuts that the code makes are the record's. Assumes nothing.
use Rattle.std.proofs.Common.{◌≡◌, ℕ, ◌+◌, ◌*◌, ◌<◌, ◌≤◌, Bool, true, false, List, length, drop, Some, None, Option, Ok, Err, Result, sym, refl, ap, ◌∙◌, arith}
use Rattle.std.specs.Bool.{then_some}
use Rattle.std.specs.Borrow.{Bor}
use Rattle.std.specs.List.{IsSplitAt}
use Rattle.std.specs.Option.{MatchOption}
use Rattle.std.specs.Result.{result_ok}
use Rattle.std.proofs.lemmas.Bool.{cond-false, le-leb, lt-leb, ne_eqb}
use Rattle.codec.specs.Bytes.{of2}
use Rattle.codec.specs.Rows.{rows_of}
use Rattle.block.specs.declared.part.Form.{Form}
use Rattle.block.specs.declared.part.Form.TheVariants as form
use Rattle.block.specs.declared.part.UnknownForm.{UnknownForm}
use Rattle.block.specs.declared.part.Part.{Part}
use Rattle.block.specs.Kept.{form_number, FormOf, when, dumped, owed, Cut, cut, cut_of, dumped_at, owed_at, part_at, part_of, tailed, parted, parts_of}
use Rattle.block.proofs.Options.{when_so, when_not, then_so, then_none}

-- the bytes split where the first record ends
pub cut_by : (bs : List ℕ) (n : ℕ) (o : Option (Bor (List ℕ) × Bor (List ℕ))) → n ≡ 2 + of2 bs → MatchOption o (length bs < n) (λ p. IsSplitAt bs n p.0.now p.1.now) → cut bs ≡ cut_of o
unfolding cut
cut_by bs n None e h = let k : length bs < 2 + of2 bs = omega arith in when_not _ _ (lt-leb _ _ k)
cut_by bs n (Some (piece, behind)) e (h, p, q, l, r) =
    let k : 2 + of2 bs ≤ length bs = omega arith in
    when_so _ _ (le-leb _ _ k) ∙ rw (sym e) (ap (λ (l : List ℕ). Some (record { piece = l; behind = drop n bs })) (sym p) ∙ ap (λ (l : List ℕ). Some (record { piece = piece.now; behind = l })) (sym q))

-- the rows, behind which no record stands, or one
module _ (v b : ℕ) (bs rest : List ℕ) (long : b * (4 * v) ≤ length bs) (is : rest ≡ drop (b * (4 * v)) bs) where
  pub dumped_torn : cut rest ≡ None → dumped_at v b bs ≡ None
  dumped_torn e = when_so _ _ (le-leb _ _ long) ∙ then_none _ _ (ap cut (sym is) ∙ e)

  pub dumped_is : (c : Cut) → cut rest ≡ Some c → dumped_at v b bs ≡ Some (record { kept = dumped (rows_of v b bs) c.piece; behind = c.behind })
  dumped_is c e = when_so _ _ (le-leb _ _ long) ∙ then_so _ _ c (ap cut (sym is) ∙ e)

-- no contract, one that is too long, or one
module _ (b : ℕ) (bs : List ℕ) where
  pub owed_torn : cut bs ≡ None → owed_at b bs ≡ None
  owed_torn e = then_none _ _ e

  pub owed_long : (c : Cut) → cut bs ≡ Some c → 512 < length c.piece → owed_at b bs ≡ None
  owed_long c e h = then_so _ _ c e ∙ when_not _ _ (lt-leb _ _ h)

  pub owed_is : (c : Cut) → cut bs ≡ Some c → length c.piece ≤ 512 → owed_at b bs ≡ Some (record { kept = owed b c.piece; behind = c.behind })
  owed_is c e h = then_so _ _ c e ∙ when_so _ _ (le-leb _ _ h)

-- a number that no form has, and one of a form
pub no_form : (tail : Bool) (v n b : ℕ) (bs : List ℕ) (r : Result Form UnknownForm) → FormOf n r → None ≡ result_ok r → parted tail v n b bs ≡ None
unfolding part_at parted
no_form tail v n b bs (Ok f) e g = cc
no_form tail v n b bs (Err u) (e, ne) g = then_none _ _ (cond-false _ _ _ (ne_eqb n 1 (λ o. ne form.Dumped (sym o))) ∙ cond-false _ _ _ (ne_eqb n 2 (λ o. ne form.Owed (sym o))))

pub the_form : (n : ℕ) (f : Form) (r : Result Form UnknownForm) → FormOf n r → Some f ≡ result_ok r → form_number f ≡ n
the_form n f (Ok g) e h = let k : f ≡ g = cc in rw k e
the_form n f (Err u) e h = cc

-- a part, and what has to stand behind it; cut at the same numbers
module _ (tail : Bool) (v w f m b n : ℕ) (bs : List ℕ) (width : v ≡ w) (number : f ≡ m) (count : b ≡ n) where
  pub no_part : part_at v f b bs ≡ None → parted tail w m n bs ≡ None
  unfolding parted
  no_part e = rw (sym width, sym number, sym count) (then_none _ _ e)

  pub the_part : (p : Part) (t : Bool) (o : Option Part) → part_at v f b bs ≡ Some (part_of v p) → t ≡ tailed tail p.behind.now → o ≡ then_some t p → parted tail w m n bs ≡ parts_of w o
  unfolding parted
  the_part p t o e g h = rw (sym width, sym number, sym count, h) (then_so _ _ (part_of v p) e ∙ ap (λ (b : Bool). when b (Some (part_of v p))) (sym g) ∙ by t)
    where
      by : (t : Bool) → when t (Some (part_of v p)) ≡ parts_of v (then_some t p)
      by true = refl
      by false = refl

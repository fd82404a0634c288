-- The record of an operator over a block: what is read keeps the rules. Assumes nothing.
use Rattle.std.proofs.Common.{◌≡◌, ℕ, ◌+◌, ◌<◌, ◌≤◌, Bool, true, List, ◌++◌, length, Some, None, Option, sym, refl, ap, ◌∙◌, arith}
use Rattle.codec.specs.declared.row.Row.{Row}
use Rattle.codec.specs.Frames.{framed, body}
use Rattle.codec.proofs.Frames.{body_framed, body_length}
use Rattle.block.specs.Kept.{Kept, kept_form, kept_count, kept_record, kept_bytes, Of, tailed, parted}
use Rattle.block.proofs.Options.{of_then, then_so}
use Rattle.block.proofs.Records.{Sound, parted_ok, parted_back}
use Rattle.keeper.specs.Taking.{form_by}
use Rattle.keeper.specs.Keeping.{Kind, Sense, Fields, inside, parsed}
use Rattle.keeper.specs.Proper.{Proper}

module _ {G : Type 0} (k : Kind G) (n : Sense G) (p : Proper k n) where
  -- the rules of the parts of a record of so many bytes
  pub record Valid (size v w bytes : ℕ) (f : Fields G) : Type 0 where
    pub sound : Sound v f.kept
    pub count : kept_count f.kept ≤ size
    pub tail : tailed (k.phases.scans f.stage) f.tail ≡ true
    pub room : 4 + length (kept_record f.kept) + length f.tail ≤ bytes
    pub ruled : (rows : List Row) (contract : Option (List ℕ)) → length rows ≡ kept_count f.kept → (kept_form f.kept ≡ 1 → contract ≡ None) → n.ruled size w f.stage rows contract

  body_ok : (bytes : List ℕ) (o : Option (List ℕ)) → body bytes ≡ o → Of (λ b. 2 + length b ≡ length bytes) o
  body_ok bytes None e = tt
  body_ok bytes (Some b) e = body_length bytes b e

  pub parsed_ok : (size v w : ℕ) (bytes : List ℕ) → v ≤ 8 → w ≤ 8 → Of (Valid size v w (length bytes)) (parsed k.phases size v w bytes)
  unfolding parsed
  parsed_ok size v w bytes hv hw =
      of_then _ _ (body bytes) _ (body_ok bytes (body bytes) refl) (λ b q. of_then _ _ (k.phases.leads size w b) _ (p.read size w b hw) (λ l r.
      of_then _ _ (parted (k.phases.scans l.stage) v l.form l.count l.behind) _ (parted_ok (k.phases.scans l.stage) v l.form l.count l.behind hv) (λ t u.
      record {
        sound = u.part.sound;
        count = omega (arith, u.part.count, r.count);
        tail = u.tailed;
        room = omega (arith, u.part.room, r.room);
        ruled = λ rows c e f. r.ruled rows c (e ∙ u.part.count) (λ h. f (u.formed ∙ h));
      })))

  -- what is written reads back
  pub parsed_back : (size v w : ℕ) (goes : Bool) (g : G) (rows : List Row) (c : Option (List ℕ)) (t : Kept) (tail : List ℕ) → size ≤ 16 → v ≤ 8 → w ≤ 8 → n.ruled size w g rows c → kept_form t ≡ form_by goes c → kept_count t ≡ length rows
      → Sound v t → tailed (k.phases.scans g) tail ≡ true → length (inside k.phases v w (record { stage = g; kept = t; tail = tail })) < 65536
      → parsed k.phases size v w (framed (inside k.phases v w (record { stage = g; kept = t; tail = tail }))) ≡ Some (record { stage = g; kept = t; tail = tail })
  unfolding parsed
  parsed_back size v w goes g rows c t tail hs hv hw ru ef ec so ta lt =
      let f : Fields G = record { stage = g; kept = t; tail = tail } in
      let rest = kept_bytes v t ++ tail in
      let named : k.phases.lead w (kept_form t) (kept_count t) g ≡ k.phases.lead w (form_by goes c) (length rows) g = ap (λ (a : ℕ). k.phases.lead w a (kept_count t) g) ef ∙ ap (λ (b : ℕ). k.phases.lead w (form_by goes c) b g) ec in
      let lead : k.phases.leads size w (inside k.phases v w f) ≡ Some (record { stage = g; form = kept_form t; count = kept_count t; behind = rest }) =
      ap (λ (z : List ℕ). k.phases.leads size w (z ++ rest)) named ∙ p.back size w goes g rows c rest hs hw ru
      ∙ ap (λ (a : ℕ). Some (record { stage = g; form = a; count = length rows; behind = rest })) (sym ef) ∙ ap (λ (b : ℕ). Some (record { stage = g; form = kept_form t; count = b; behind = rest })) (sym ec) in
      then_so _ _ (inside k.phases v w f) (body_framed (inside k.phases v w f) lt) ∙ then_so _ _ (record { stage = g; form = kept_form t; count = kept_count t; behind = rest }) lead
      ∙ then_so _ _ (record { kept = t; behind = tail }) (parted_back (k.phases.scans g) v t tail hv so ta)

-- Parts of a list that may be too short, and a contract that may be too long. Assumes nothing.
use Rattle.std.proofs.Common.{◌≡◌, ℕ, ◌<◌, ◌≤◌, min, Bool, true, false, leb, List, length, take, Some, None, Ok, Err, Result, sym, ap, ◌∙◌, refl, arith}
use Rattle.std.specs.Result.{result_ok}
use Rattle.std.proofs.lemmas.List.{take_all, take_at}
use Rattle.std.proofs.lemmas.Bool.{leb-true, leb-false, le-leb, lt-leb, cond-true, cond-false}
use Rattle.refusal.specs.declared.Refusal.{Refusal}
use Rattle.codec.specs.Written.{Wrote}
use Rattle.block.specs.Held.{signed}

pub take_up : {A : Type 0} (k n : ℕ) (xs : List A) → n ≡ min k (length xs) → take n xs ≡ take k xs
take_up k n xs e = by (leb k (length xs)) refl
  where
    by : (t : Bool) → leb k (length xs) ≡ t → take n xs ≡ take k xs
    by true t = let l = leb-true k (length xs) t in ap (λ j. take j xs) (omega arith)
    by false t = let l = leb-false k (length xs) t in take_all n xs (omega arith) ∙ sym (take_all k xs (omega arith))

-- a record written into 512 bytes, kept if it fits
pub signed_ok : (bytes old new held : List ℕ) (r : Result ℕ Refusal) (used : ℕ) → length old ≡ 512 → Some used ≡ result_ok r → held ≡ take used new → Wrote bytes old new r → Some held ≡ signed bytes
signed_ok bytes old new held (Ok n) used l e h (a, b, c) =
    let k : length bytes ≤ 512 = omega arith in
    let u : used ≡ length bytes = cc in
    ap (λ (x : List ℕ). Some x) (h ∙ ap (take used) c ∙ take_at bytes _ used (sym u)) ∙ sym (cond-true _ _ _ (le-leb _ _ k))
signed_ok bytes old new held (Err f) used l e h w = cc

pub signed_err : (bytes old new : List ℕ) (r : Result ℕ Refusal) → length old ≡ 512 → None ≡ result_ok r → Wrote bytes old new r → None ≡ signed bytes
signed_err bytes old new (Ok n) l e w = cc
signed_err bytes old new (Err f) l e (a, b, c) =
    let k : 512 < length bytes = omega arith in
    sym (cond-false _ _ _ (lt-leb _ _ k))

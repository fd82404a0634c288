-- What a call that writes to a caller's buffer leaves there. Assumes nothing.
use Rattle.std.specs.Prelude.{◌≡◌, ℕ, ◌<◌, ◌≤◌, List, ◌++◌, length, drop, Ok, Err, Result}
use Rattle.refusal.specs.declared.Refusal.{Refusal}
use Rattle.refusal.specs.Numbers.{number}

-- the bytes stand at the buffer's front, the rest stays, and the answer is how many they are;
-- a buffer that is too short is refused as short, and stays
abbrev pub Wrote : List ℕ → List ℕ → List ℕ → Result ℕ Refusal → Type 0
Wrote bytes old new (Ok n) = (n ≡ length bytes) × (length bytes ≤ length old) × (new ≡ bytes ++ drop (length bytes) old)
Wrote bytes old new (Err e) = (number e ≡ 6) × (length old < length bytes) × (new ≡ old)

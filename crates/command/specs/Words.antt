-- What words on a command line mean. Assumes nothing.
use Rattle.std.specs.Prelude.{◌≡◌, ℕ, ◌^◌, ◌<◌, List, [], ◌∷◌, ℤ, Some, None, Ok, Err, Option, Result, FitsSigned}
use Rattle.std.specs.Int.{w32}
use Rattle.std.specs.Result.{result_ok}
use Rattle.std.specs.Str.Parse.{ParsesUnsigned, ParsesSigned, IsNumeral, digits_value, without_leading_plus, without_leading_sign, signed_digits_value}
use Rattle.source.specs.declared.ramp.Slope.{Slope}
use Rattle.filter.specs.declared.condition.Criterion.{Criterion}

-- there is an answer exactly where the words spell one
abbrev pub Reads : {A : Type 0} → (A → Type 0) → Option A → Type 0
Reads P None = (x : _) → P x → ⊥
Reads P (Some x) = P x

-- the word is a decimal number of that many bits, and the number is n
pub record Spells (bits : ℕ) (word : List ℕ) (n : ℕ) : Type 0 where
  pub digits : IsNumeral 10 (without_leading_plus word)
  pub fits : digits_value 10 (without_leading_plus word) < 2 ^ bits
  pub is : n ≡ digits_value 10 (without_leading_plus word)

-- the word is a decimal number of 32 bits with or without a sign, and the number is z
pub record SpellsSigned (word : List ℕ) (z : ℤ) : Type 0 where
  pub digits : IsNumeral 10 (without_leading_sign word)
  pub fits : FitsSigned w32 (signed_digits_value 10 word)
  pub is : z ≡ signed_digits_value 10 word

-- what a word is parsed to is the number that it spells
pub reads_unsigned : {E : Type 0} (bits : ℕ) (word : List ℕ) (r : Result ℕ E) → ParsesUnsigned bits 10 word r → Reads (Spells bits word) (result_ok r)
reads_unsigned bits word (Ok n) ((digits, fits), is) = record { digits = digits; fits = fits; is = is }
reads_unsigned bits word (Err e) refuted = λ n s. refuted (s.digits, s.fits)

pub reads_signed : {E : Type 0} (word : List ℕ) (r : Result ℤ E) → ParsesSigned w32 10 word r → Reads (SpellsSigned word) (result_ok r)
reads_signed word (Ok z) ((digits, fits), is) = record { digits = digits; fits = fits; is = is }
reads_signed word (Err e) refuted = λ z s. refuted (s.digits, s.fits)

-- three words and the criterion that they spell
pub record SpellsCriterion (cell condition constant : List ℕ) (c : Criterion) : Type 0 where
  pub of_cell : Spells 8 cell c.cell
  pub of_condition : condition ≡ c.condition ∷ []
  pub of_constant : SpellsSigned constant c.constant

-- three words and the slope that they spell
pub record SpellsSlope (start step count : List ℕ) (l : Slope) : Type 0 where
  pub of_start : SpellsSigned start l.start
  pub of_step : SpellsSigned step l.step
  pub of_count : Spells 16 count l.count

-- How a refusal is told in words. Assumes nothing.
use Rattle.std.specs.Prelude.{ℕ, List, ◌++◌, Some, None, codes, decimal, Option}
use Rattle.refusal.specs.declared.Refusal.{Refusal}
use Rattle.refusal.specs.Numbers.{number, operator, word}

-- a number and a word, and an operator if there is one
abbrev pub text_of : ℕ → List ℕ → Option ℕ → List ℕ
text_of number word None = decimal number ++ (codes " " ++ word)
text_of number word (Some at) = decimal number ++ (codes " " ++ (word ++ (codes ", operator " ++ decimal at)))

-- its number and word, and the operator that it names
abbrev pub text : Refusal → List ℕ
text e = text_of (number e) (word e) (operator e)

-- What is reported of a refusal. Assumes nothing.
use Rattle.std.specs.Prelude.{ℕ, List, ◌++◌, codes}
use Rattle.refusal.specs.declared.Refusal.{Refusal}
use Rattle.refusal.specs.Texts.{text}

-- its number and word, and the operator that it names
abbrev pub report : Refusal → List ℕ
report e = codes "refused: " ++ text e

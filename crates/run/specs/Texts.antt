-- How it is told in words why there is no run. Assumes nothing.
use Rattle.std.specs.Prelude.{ℕ, List, ◌++◌, codes}
use Rattle.refusal.specs.Texts.{text}
use Rattle.run.specs.declared.Failure.{Failure}
use Rattle.run.specs.declared.Failure.TheVariants.{Refused, NoMemory}

abbrev pub failure_text : Failure → List ℕ
failure_text (Refused e) = codes "refused: " ++ text e
failure_text NoMemory = codes "out of memory"

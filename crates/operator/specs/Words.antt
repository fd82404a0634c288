-- The word for an answer. Assumes nothing.
use Rattle.std.specs.Prelude.{ℕ, List, codes}
use Rattle.operator.specs.declared.answer.Answer.{Answer}
use Rattle.operator.specs.declared.answer.Answer.TheVariants as answer

abbrev pub answer_word : Answer → List ℕ
answer_word (answer.Row x) = codes "row"
answer_word answer.Busy = codes "busy"
answer_word answer.End = codes "end"

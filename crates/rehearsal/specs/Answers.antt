-- The line that an answer is told by.
use Rattle.std.specs.Prelude.{ℕ, List, [], ◌∷◌, ◌++◌, codes, decimal}
use Rattle.coins.specs.Refusals.{refusal_number}
use Rattle.coins.specs.declared.answer.Answer.{Answer}
use Rattle.coins.specs.declared.answer.Answer.TheVariants.{Fine, Done, Refused}

-- ok, done or refused N, and the end of the line
abbrev pub answer_line : Answer → List ℕ
answer_line Fine = codes "ok" ++ 10 ∷ []
answer_line Done = codes "done" ++ 10 ∷ []
answer_line (Refused why) = codes "refused " ++ (decimal (refusal_number why) ++ 10 ∷ [])

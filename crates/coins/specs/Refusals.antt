-- The number by which each refusal is told.
use Rattle.std.specs.Prelude.{ℕ}
use Rattle.coins.specs.declared.answer.Refusal.{Refusal}
use Rattle.coins.specs.declared.answer.Refusal.TheVariants.{Malformed, NotNext, NotSent, NoLetter, CoinsOut, NotWorking, OneCoin, CountsUsed, LettersFull, NoPlace}

abbrev pub refusal_number : Refusal → ℕ
refusal_number Malformed = 1
refusal_number NotNext = 2
refusal_number NotSent = 2
refusal_number NoLetter = 3
refusal_number CoinsOut = 3
refusal_number NotWorking = 4
refusal_number OneCoin = 5
refusal_number CountsUsed = 6
refusal_number LettersFull = 6
refusal_number NoPlace = 6

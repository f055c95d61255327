-- Which of the 64 places a letter has. Letters are numbered from 1; a free place has the number 0.
use Rattle.std.specs.Prelude.{ℕ, cond, List, ◌==◌, None, Option}
use Rattle.std.specs.List.{position, position_or_len}

-- the first place with this number, or the length where there is none
abbrev pub seek : List ℕ → ℕ → ℕ
seek numbers n = position_or_len (λ x. x == n) numbers

-- the place of a letter among 64 numbers, or 64 where it has none
abbrev pub place : List ℕ → ℕ → ℕ
place numbers letter = cond (letter == 0) 64 (seek numbers letter)

-- the place of a letter, if it has one
abbrev pub found : List ℕ → ℕ → Option ℕ
found numbers letter = cond (letter == 0) None (position (λ x. x == letter) numbers)

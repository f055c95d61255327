-- What is seen of the places of a helper's letters.
use Rattle.std.specs.Prelude.{ℕ, ◌≡◌, List, map}
use Rattle.helper_coins.specs.declared.holding.Holding.{Holding}
use Rattle.helper_coins.specs.declared.slot.Slot.{Slot}
use Rattle.helper_coins.specs.Holdings.{idle}

-- the number of the letter that has the place, or 0 where it is free
abbrev pub number_in : Slot → ℕ
number_in s = s.letter.number

-- what there is of the letter that has the place
abbrev pub holding_in : Slot → Holding
holding_in s = s.holding

abbrev pub numbers : List Slot → List ℕ
numbers slots = map number_in slots

abbrev pub holdings : List Slot → List Holding
holdings slots = map holding_in slots

abbrev pub free_slot : Slot
free_slot = record { letter = record { number = 0 }; holding = idle }

-- letters are numbered from 1: a place of the number 0 is free, and nothing is left there of the letter that had it
abbrev pub Tidy : Slot → Type 0
Tidy s = s.letter.number ≡ 0 → s.holding ≡ idle

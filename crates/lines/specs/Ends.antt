-- One end of a line, as one node has it: what it keeps of what it sent, and how far it took what came.
use Rattle.std.specs.Prelude.{ℕ, suc, ◌+◌, ◌-◌, cond, List, [], ◌∷◌, ◌++◌, length, drop, ◌==◌, nat_le, nat_lt, slice_index_or}
use Rattle.coins.specs.declared.parcel.Parcel.{Parcel}
use Rattle.coins.specs.Limits.{limit}
use Rattle.lines.specs.declared.end.Standing.{Standing}
use Rattle.lines.specs.declared.end.Standing.TheVariants.{Old, Next, Ahead}

-- answered: the number up to which the peer has answered; waiting: what was sent with the numbers after that, and is
-- kept; taken: the last number that was taken from the peer
pub record End : Type 0 where
  pub answered : ℕ
  pub waiting : List Parcel
  pub taken : ℕ

abbrev pub fresh_end : End
fresh_end = record { answered = 0; waiting = []; taken = 0 }

-- the number of the last message that was sent
abbrev pub last_sent : End → ℕ
last_sent e = e.answered + length e.waiting

-- at most so many may wait for an answer
abbrev pub window : ℕ
window = 1024

-- the places that there are: none when numbers are used up, which no line comes to
abbrev pub room_of : End → ℕ
room_of e = cond (nat_lt e.answered limit) (window - length e.waiting) 0

-- one more is kept: it has the number after all that was sent
abbrev pub keeping : End → Parcel → End
keeping e p = record { answered = e.answered; waiting = e.waiting ++ p ∷ []; taken = e.taken }

-- the peer has answered up to n: what waits up to it is kept no more; a stale answer changes nothing
abbrev pub released : End → ℕ → End
released e n =
    record { answered = e.answered + (n - e.answered); waiting = drop (n - e.answered) e.waiting; taken = e.taken }

-- an answer for more than was sent is turned away
abbrev pub answered_up_to : End → ℕ → End
answered_up_to e n = cond (nat_le n (last_sent e)) (released e n) e

-- the message with this number was taken from the peer
abbrev pub taking : End → ℕ → End
taking e n = record { answered = e.answered; waiting = e.waiting; taken = n }

-- how the number of a message stands to the last that was taken
abbrev pub standing : End → ℕ → Standing
standing e n = cond (nat_le n e.taken) Old (cond (n == suc e.taken) Next Ahead)

-- the place of a peer among a node's ends: helpers by their numbers, and the boss behind them
abbrev pub slot : ℕ → ℕ
slot peer = cond (nat_lt peer 256) peer 256

abbrev pub end_at : List End → ℕ → End
end_at es i = slice_index_or es i fresh_end

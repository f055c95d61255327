-- What becomes of a helper's state of one letter.
use Rattle.std.specs.Prelude.{ℕ, ◌+◌, ◌-◌, ◌/◌, Bool, true, false, not, ◌&&◌, nat_lt}
use Rattle.helper_coins.specs.declared.holding.Holding.{Holding}

abbrev pub idle : Holding
idle = record { working = false; coins = 0; asked = false }

-- work has come: it is at work, and has the coins beside those that it had
abbrev pub took : Holding → ℕ → Holding
took h c = record { working = true; coins = h.coins + c; asked = h.asked }

-- the smaller half was given on
abbrev pub kept : Holding → Holding
kept h = record { working = h.working; coins = h.coins - h.coins / 2; asked = h.asked }

-- it has asked for more
abbrev pub waiting : Holding → Holding
waiting h = record { working = h.working; coins = h.coins; asked = true }

-- an answer has come, with so many coins
abbrev pub answered : Holding → ℕ → Holding
answered h c = record { working = h.working; coins = h.coins + c; asked = false }

-- not at work, with coins that wait for a place on their way to the boss
abbrev pub waits : Holding → Bool
waits h = not h.working && nat_lt 0 h.coins

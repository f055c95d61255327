-- The boss and the helpers over lossy lines whose frames are bytes, and what of it is seen from above.
use Rattle.std.specs.Prelude.{ℕ, zero, suc, ◌≤◌, List, [], ◌∷◌, ◌++◌, map, length}
use Rattle.std.specs.List.{flat_map}
use Rattle.coins.specs.declared.mail.Mail.{Mail}
use Rattle.boss_coins.specs.Bosses.{new_boss}
use Rattle.runs.specs.System.{World, crew}
use Rattle.lines.specs.declared.packet.Packet.{Packet}
use Rattle.lines.specs.Runs.{Runs}
use Rattle.lines.specs.Lossy.{Line, Lossy, new_line, under, LossyStep}
use Rattle.network.specs.Above.{Crew, Item, Call, Take}
use Rattle.network.specs.Bytes.{reading}

abbrev pub Net : Type 0
Net = Lossy Crew Item Packet

abbrev pub NetStep : Net → Net → Type 0
NetStep = LossyStep Call Take reading

-- n helpers, new lines, and no packet on its way
abbrev pub opening : ℕ → Net
opening n = record { above = record { boss = new_boss; helpers = crew n }; line = λ s r. new_line; net = [] }

-- it came by steps from the opening with up to 256 helpers
pub record NetReach (w : Net) : Type 0 where
  pub size : ℕ
  pub few : size ≤ 256
  pub run : Runs NetStep (opening size) w

-- the places of n helpers, 0 to n - 1, and that of the boss
unfoldable pub below : ℕ → List ℕ
below zero = []
below (suc n) = below n ++ n ∷ []

unfoldable pub places : ℕ → List ℕ
places n = below n ++ 256 ∷ []

-- the messages under way on a line: what the sender keeps above the number that the receiver last took
abbrev pub mail_on : Line Item → List Mail
mail_on l = map (λ (m : Item). m.mail) (under l)

-- all messages under way, line by line: by senders, and by receivers
unfoldable pub all_mail : ℕ → (ℕ → ℕ → Line Item) → List Mail
all_mail n line = flat_map (λ s. flat_map (λ r. mail_on (line s r)) (places n)) (places n)

-- what is seen from above: no numbers, no packets; the world of lines that lose nothing
abbrev pub seen : Net → World
seen w = record { boss = w.above.boss; helpers = w.above.helpers; post = all_mail (length w.above.helpers) w.line }

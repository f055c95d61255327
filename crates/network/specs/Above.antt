-- The protocol above the lines: the boss and the helpers, what they are called for, and what they take.
use Rattle.std.specs.Prelude.{◌≡◌, ℕ, ◌<◌, List, [], ◌∷◌, length, slice_set, Option, Ok, Some, None}
use Rattle.coins.specs.declared.ids.LetterId.{LetterId}
use Rattle.coins.specs.declared.ids.NodeId.{NodeId}
use Rattle.coins.specs.declared.mail.Mail.{Mail}
use Rattle.helper_coins.specs.declared.helper.Helper.{Helper}
use Rattle.boss_coins.specs.declared.boss.Boss.{Boss}
use Rattle.helper_coins.specs.Helpers.{share_step, rest_step, flush_step, arrive_step}
use Rattle.boss_coins.specs.Bosses.{give_step, say_step, receive_step}
use Rattle.runs.specs.System.{helper_at}
use Rattle.lines.specs.Perfect.{Sent}
use Rattle.lines.specs.Ends.{slot}

-- everybody together
pub record Crew : Type 0 where
  pub boss : Boss
  pub helpers : List Helper

-- what travels: a message, and the bytes of its work
pub record Item : Type 0 where
  pub mail : Mail
  pub work : List ℕ

-- what a step sends goes from the place of its sender to that of its receiver: helpers by their numbers, the boss behind them
abbrev pub outgoing : Option Mail → List ℕ → List (Sent Item)
outgoing None work = []
outgoing (Some m) work = record { sender = slot m.sender.number; receiver = slot m.receiver.number; what = record { mail = m; work = work } } ∷ []

abbrev pub boss_is : Crew → Boss → Crew
boss_is x b = record { boss = b; helpers = x.helpers }

abbrev pub helper_is : Crew → ℕ → Helper → Crew
helper_is x i h = record { boss = x.boss; helpers = slice_set x.helpers i h }

-- Somebody is called. room, peer, boss: the places that there are towards who is sent to, any number; work: any bytes.
pub data Call : Crew → List (Sent Item) → Crew → Type 0 where
  gives : (x : Crew) (letter : LetterId) (to : NodeId) (room : ℕ) (work : List ℕ) → to.number < length x.helpers →
      Call x (outgoing (give_step x.boss letter to room).outcome.post work) (boss_is x (give_step x.boss letter to room).boss)
  says : (x : Crew) (letter : LetterId) →
      Call x (outgoing (say_step x.boss letter).outcome.post []) (boss_is x (say_step x.boss letter).boss)
  shares : (x : Crew) (i : ℕ) (letter : LetterId) (to : NodeId) (peer boss : ℕ) (work : List ℕ) → i < length x.helpers → to.number < length x.helpers →
      Call x (outgoing (share_step (helper_at x.helpers i) letter to peer boss).outcome.post work) (helper_is x i (share_step (helper_at x.helpers i) letter to peer boss).helper)
  rests : (x : Crew) (i : ℕ) (letter : LetterId) (boss : ℕ) → i < length x.helpers →
      Call x (outgoing (rest_step (helper_at x.helpers i) letter boss).outcome.post []) (helper_is x i (rest_step (helper_at x.helpers i) letter boss).helper)
  flushes : (x : Crew) (i : ℕ) (boss : ℕ) → i < length x.helpers →
      Call x (outgoing (flush_step (helper_at x.helpers i) boss).post []) (helper_is x i (flush_step (helper_at x.helpers i) boss).helper)

-- Who is at a place takes a message that comes from place s.
pub data Take : Crew → ℕ → ℕ → Item → List (Sent Item) → Crew → Type 0 where
  comes : (x : Crew) (s i boss : ℕ) (m : Item) (h : Helper) (p : Option Mail) → i < length x.helpers →
      arrive_step (helper_at x.helpers i) m.mail.letter m.mail.kind boss ≡ record { helper = h; taking = Ok p } →
      Take x s i m (outgoing p []) (helper_is x i h)
  returns : (x : Crew) (s room : ℕ) (m : Item) (b : Boss) (p : Option Mail) →
      receive_step x.boss m.mail.sender m.mail.letter m.mail.kind room ≡ record { boss = b; taking = Ok p } →
      Take x s 256 m (outgoing p []) (boss_is x b)

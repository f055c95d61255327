-- The boss, the helpers and the messages between them, over lines that lose nothing; and every step of them all.
use Rattle.std.specs.Prelude.{◌≡◌, ℕ, zero, suc, ◌<◌, ◌≤◌, Bool, ◌&&◌, List, [], ◌∷◌, ◌++◌, length, Some, None, Ok, Option, ◌==◌, slice_index_or, slice_set}
use Rattle.std.specs.List.{remove, position_or_len}
use Rattle.coins.specs.declared.ids.LetterId.{LetterId}
use Rattle.coins.specs.declared.ids.NodeId.{NodeId}
use Rattle.coins.specs.declared.mail.Kind.TheVariants.{Work}
use Rattle.coins.specs.declared.mail.Mail.{Mail}
use Rattle.helper_coins.specs.declared.helper.Helper.{Helper}
use Rattle.boss_coins.specs.declared.boss.Boss.{Boss}
use Rattle.coins.specs.Limits.{boss_number}
use Rattle.helper_coins.specs.Helpers.{new_helper, share_step, rest_step, flush_step, arrive_step}
use Rattle.boss_coins.specs.Bosses.{new_boss, give_step, say_step, receive_step}

-- post: the messages under way, the oldest first
pub record World : Type 0 where
  pub boss : Boss
  pub helpers : List Helper
  pub post : List Mail

-- helpers numbered from 0
unfoldable pub crew : ℕ → List Helper
crew zero = []
crew (suc n) = crew n ++ new_helper (record { number = n }) ∷ []

abbrev pub start : ℕ → World
start n = record { boss = new_boss; helpers = crew n; post = [] }

-- what stands at a number that no helper has
abbrev pub no_helper : Helper
no_helper = record { me = record { number = 0 }; letters = []; holdings = [] }

abbrev pub helper_at : List Helper → ℕ → Helper
helper_at hs i = slice_index_or hs i no_helper

abbrev pub no_mail : Mail
no_mail = record { sender = record { number = 0 }; receiver = record { number = 0 }; letter = record { number = 0 }; kind = Work 0 }

abbrev pub mail_at : List Mail → ℕ → Mail
mail_at ms k = slice_index_or ms k no_mail

-- The messages from one to another are a queue: the first of them comes first.
abbrev pub on_line : NodeId → NodeId → Mail → Bool
on_line s r m = m.sender.number == s.number && m.receiver.number == r.number

-- the first message from one to another, or how many there are where there is none
abbrev pub head : List Mail → NodeId → NodeId → ℕ
head ms s r = position_or_len (on_line s r) ms

-- the k-th message is the first of its line
pub record First (ms : List Mail) (k : ℕ) : Type 0 where
  pub inside : k < length ms
  pub foremost : head ms (mail_at ms k).sender (mail_at ms k).receiver ≡ k

abbrev pub sent : Option Mail → List Mail → List Mail
sent None ms = ms
sent (Some m) ms = ms ++ m ∷ []

abbrev pub boss_did : World → Boss → Option Mail → World
boss_did w b p = record { boss = b; helpers = w.helpers; post = sent p w.post }

abbrev pub helper_did : World → ℕ → Helper → Option Mail → World
helper_did w i h p = record { boss = w.boss; helpers = slice_set w.helpers i h; post = sent p w.post }

abbrev pub without : World → ℕ → World
without w k = record { boss = w.boss; helpers = w.helpers; post = remove w.post k }

-- A step: somebody is called, or the first message of a line comes. room, peer, boss: the places that there are
-- towards who is sent to; any number, so that what is proved holds for every window.
pub data Step : World → World → Type 0 where
  gives : (w : World) (letter : LetterId) (to : NodeId) (room : ℕ) → to.number < length w.helpers →
      Step w (boss_did w (give_step w.boss letter to room).boss (give_step w.boss letter to room).outcome.post)
  says : (w : World) (letter : LetterId) →
      Step w (boss_did w (say_step w.boss letter).boss (say_step w.boss letter).outcome.post)
  shares : (w : World) (i : ℕ) (letter : LetterId) (to : NodeId) (peer boss : ℕ) → i < length w.helpers → to.number < length w.helpers →
      Step w (helper_did w i (share_step (helper_at w.helpers i) letter to peer boss).helper (share_step (helper_at w.helpers i) letter to peer boss).outcome.post)
  rests : (w : World) (i : ℕ) (letter : LetterId) (boss : ℕ) → i < length w.helpers →
      Step w (helper_did w i (rest_step (helper_at w.helpers i) letter boss).helper (rest_step (helper_at w.helpers i) letter boss).outcome.post)
  flushes : (w : World) (i : ℕ) (boss : ℕ) → i < length w.helpers →
      Step w (helper_did w i (flush_step (helper_at w.helpers i) boss).helper (flush_step (helper_at w.helpers i) boss).post)
  -- the first message of a line comes to a helper, who takes it
  comes : (w : World) (k i boss : ℕ) (h : Helper) (p : Option Mail) → First w.post k → (mail_at w.post k).receiver.number ≡ i → i < length w.helpers →
      arrive_step (helper_at w.helpers i) (mail_at w.post k).letter (mail_at w.post k).kind boss ≡ record { helper = h; taking = Ok p } →
      Step w (helper_did (without w k) i h p)
  -- the first message of a line comes to the boss, who takes it
  returns : (w : World) (k room : ℕ) (b : Boss) (p : Option Mail) → First w.post k → (mail_at w.post k).receiver.number ≡ boss_number →
      receive_step w.boss (mail_at w.post k).sender (mail_at w.post k).letter (mail_at w.post k).kind room ≡ record { boss = b; taking = Ok p } →
      Step w (boss_did (without w k) b p)

-- the worlds that are reached from the start, with up to 256 helpers
pub data Reach : World → Type 0 where
  begin : (n : ℕ) → n ≤ 256 → Reach (start n)
  then : {w v : World} → Reach w → Step w v → Reach v

-- one world comes of another by steps
pub data Runs : World → World → Type 0 where
  still : {w : World} → Runs w w
  onward : {w v u : World} → Runs w v → Step v u → Runs w u

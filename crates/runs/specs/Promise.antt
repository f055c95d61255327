-- What is promised, of every world that is reached and of every letter.
use Rattle.std.specs.Prelude.{◌≡◌, ℕ, ◌+◌, ◌*◌, ◌<◌, ◌≤◌, Bool, true, false, cond, ◌⊎◌, [], length, Ok, Err, ◌==◌, ◌≢◌, slice_index}
use Rattle.coins.specs.declared.ids.LetterId.{LetterId}
use Rattle.coins.specs.declared.answer.Answer.TheVariants.{Done}
use Rattle.coins.specs.declared.mail.Kind.{Kind}
use Rattle.coins.specs.declared.mail.Kind.TheVariants.{Work, More, Back, NoMore, Ask}
use Rattle.coins.specs.Mails.{Taking}
use Rattle.coins.specs.declared.mail.Untaken.TheVariants.{Later, Refused}
use Rattle.coins.specs.Limits.{boss_number}
use Rattle.helper_coins.specs.Holdings.{waits}
use Rattle.helper_coins.specs.Helpers.{seek_waiting, arrive_step}
use Rattle.boss_coins.specs.Bosses.{is_open, say_step, receive_step}
use Rattle.runs.specs.System.{World, mail_at, helper_at, Step, gives, says, shares, rests, flushes, comes, returns, Reach, Runs}
use Rattle.runs.specs.Letter.{View, view, is_done, holding_at, is_work, Quiet, held, under_way, to_come}
use Rattle.runs.specs.Moves.{Move}

-- each message of work or coins has a coin
abbrev pub Laden : Kind → Type 0
Laden (Work c) = 1 ≤ c
Laden (More c) = 1 ≤ c
Laden (Back c) = 1 ≤ c
Laden NoMore = Unit {0}
Laden Ask = Unit {0}

-- a message is taken
abbrev pub Taken : Taking → Type 0
Taken (Ok p) = Unit {0}
Taken (Err Later) = ⊥
Taken (Err (Refused why)) = ⊥

-- a message is taken; or, when there is no place for its answer, later; it is never turned away
abbrev pub Welcome : ℕ → Taking → Type 0
Welcome room (Ok p) = Unit {0}
Welcome room (Err Later) = room ≡ 0
Welcome room (Err (Refused why)) = ⊥

-- What holds of one letter. quiet: when the boss has said done, nobody is at work on it and no work of it is under
-- way. kept: no coin is made or lost. paid: who is at work has a coin.
pub record Sound (v : View) : Type 0 where
  pub quiet : v.done ≡ true → Quiet v
  pub kept : v.given ≡ v.back + (held v.holdings + under_way v.post)
  pub paid : (i : ℕ) → (holding_at v.holdings i).working ≡ true → 1 ≤ (holding_at v.holdings i).coins

pub record Promised (w : World) : Type 0 where
  pub sound : (letter : ℕ) → 1 ≤ letter → Sound (view letter w)
  -- every message of work or coins has at least one
  pub laden : (k : ℕ) → k < length w.post → Laden (mail_at w.post k).kind
  -- every message is for the boss, or else for a helper that there is; a helper takes it, and the boss does not turn it away
  pub addressed : (k : ℕ) → k < length w.post → ((mail_at w.post k).receiver.number ≢ boss_number) → (mail_at w.post k).receiver.number < length w.helpers
  pub helped : (k i boss : ℕ) → k < length w.post → (mail_at w.post k).receiver.number ≡ i → i < length w.helpers →
      Taken (arrive_step (helper_at w.helpers i) (mail_at w.post k).letter (mail_at w.post k).kind boss).taking
  pub received : (k room : ℕ) → k < length w.post → (mail_at w.post k).receiver.number ≡ boss_number →
      Welcome room (receive_step w.boss (mail_at w.post k).sender (mail_at w.post k).letter (mail_at w.post k).kind room).taking

abbrev pub Promise : Type 0
Promise = (w : World) → Reach w → Promised w

-- What the boss has said stays said, whatever happens after; so a number that was used never opens again.
abbrev pub DoneStays : Type 0
DoneStays = (w v : World) → Reach w → Runs w v → (letter : ℕ) → 1 ≤ letter → is_done w.boss letter ≡ true →
    (is_done v.boss letter ≡ true) × (is_open v.boss letter ≡ false) × Quiet (view letter v)

-- Each step is for each letter one of the rules, or nothing.
abbrev pub StepsAreMoves : Type 0
StepsAreMoves = (w v : World) → Reach w → Step w v → (letter : ℕ) → 1 ≤ letter → Move (view letter w) (view letter v) ⊎ (view letter v ≡ view letter w)

-- The letter that a step is about.
abbrev pub about : {w v : World} → Step w v → ℕ
about (gives w letter to room i) = letter.number
about (says w letter) = letter.number
about (shares w i letter to peer boss l r) = letter.number
about (rests w i letter boss l) = letter.number
about (flushes w i boss l) = slice_index (helper_at w.helpers i).letters (seek_waiting (helper_at w.helpers i).holdings)
about (comes w k i boss h p f r l e) = (mail_at w.post k).letter.number
about (returns w k room b p f r e) = (mail_at w.post k).letter.number

-- all that is of a letter is as it was
pub record Untouched (v u : View) : Type 0 where
  pub live : u.live ≡ v.live
  pub given : u.given ≡ v.given
  pub back : u.back ≡ v.back
  pub holdings : u.holdings ≡ v.holdings
  pub post : u.post ≡ v.post

-- Letters do not disturb each other.
abbrev pub LettersApart : Type 0
LettersApart = (w v : World) → Reach w → (s : Step w v) → (letter : ℕ) → 1 ≤ letter → (about s ≢ letter) → Untouched (view letter w) (view letter v)

-- Nobody comes to be at work but by work that was under way to it.
abbrev pub OnlyWorkWakes : Type 0
OnlyWorkWakes = (w v : World) → Reach w → Step w v → (letter i : ℕ) → 1 ≤ letter →
    (holding_at (view letter w).holdings i).working ≡ false → (holding_at (view letter v).holdings i).working ≡ true →
    (k : ℕ) × (k < length w.post) × ((mail_at w.post k).receiver.number ≡ i) × ((mail_at w.post k).letter.number ≡ letter) × (is_work (mail_at w.post k).kind ≡ true)

-- Whether a step is a give of the letter; and how many messages of the letter come by it.
abbrev pub is_give : {w v : World} → ℕ → Step w v → Bool
is_give letter (gives w l to room i) = l.number == letter
is_give letter (says w l) = false
is_give letter (shares w i l to peer boss p q) = false
is_give letter (rests w i l boss p) = false
is_give letter (flushes w i boss p) = false
is_give letter (comes w k i boss h p f r l e) = false
is_give letter (returns w k room b p f r e) = false

abbrev pub arrivals : {w v : World} → ℕ → Step w v → ℕ
arrivals letter (gives w l to room i) = 0
arrivals letter (says w l) = 0
arrivals letter (shares w i l to peer boss p q) = 0
arrivals letter (rests w i l boss p) = 0
arrivals letter (flushes w i boss p) = 0
arrivals letter (comes w k i boss h p f r l e) = cond ((mail_at w.post k).letter.number == letter) 1 0
arrivals letter (returns w k room b p f r e) = cond ((mail_at w.post k).letter.number == letter) 1 0

-- a run with no new give of the letter, in which so many messages of it come
pub data Ungiven (letter : ℕ) : World → World → ℕ → Type 0 where
  still : {w : World} → Ungiven letter w w 0
  onward : {w v u : World} {n : ℕ} → Ungiven letter w v n → (s : Step v u) → is_give letter s ≡ false → Ungiven letter w u (n + arrivals letter s)

-- From a quiet world, however it goes on without a new give of the letter: it stays quiet, and each message of the
-- letter that comes lowers what there is to come, which nothing raises.
abbrev pub QuietGoesOn : Type 0
QuietGoesOn = (w v : World) (n : ℕ) (letter : ℕ) → 1 ≤ letter → Reach w → Quiet (view letter w) → Ungiven letter w v n →
    Quiet (view letter v) × (n + to_come (view letter v) ≤ to_come (view letter w))

-- So few messages can still come: four for each that is under way, and two for each helper.
abbrev pub QuietIsShort : Type 0
QuietIsShort = (v : View) → to_come v ≤ 4 * length v.post + 2 * length v.holdings

-- When it is quiet, no message of the letter is left, and no coins wait for a place, all coins are back; and while
-- the letter is open, say answers done.
abbrev pub QuietIsSaid : Type 0
QuietIsSaid = (w : World) (letter : LetterId) → 1 ≤ letter.number → Reach w → Quiet (view letter.number w) →
    (view letter.number w).post ≡ [] → ((i : ℕ) → waits (holding_at (view letter.number w).holdings i) ≡ false) →
    ((view letter.number w).given ≡ (view letter.number w).back) ×
    (is_open w.boss letter.number ≡ true → (say_step w.boss letter).outcome.answer ≡ Done)

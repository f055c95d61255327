-- What is promised over lossy lines: all that is promised over lines that lose nothing, and that messages come through.
use Rattle.std.specs.Prelude.{◌≡◌, ℕ, ◌+◌, ◌<◌, ◌≤◌, Bool, true, false, cond, ◌⊎◌, List, [], length, ◌==◌}
use Rattle.std.proofs.Common.{inl, inr}
use Rattle.coins.specs.declared.ids.LetterId.{LetterId}
use Rattle.coins.specs.declared.ids.NodeId.{NodeId}
use Rattle.coins.specs.declared.answer.Answer.TheVariants.{Done}
use Rattle.helper_coins.specs.Holdings.{waits}
use Rattle.boss_coins.specs.Bosses.{is_open, say_step}
use Rattle.runs.specs.System.{World, mail_at, Step, Reach}
use Rattle.runs.specs.Letter.{view, is_done, holding_at, is_work, Quiet, to_come}
use Rattle.runs.specs.Lines.{queue}
use Rattle.runs.specs.Promise.{Promised}
use Rattle.lines.specs.Runs.{Runs}
use Rattle.lines.specs.Perfect.{Sent}
use Rattle.lines.specs.Lossy.{calls, drifts, takes, answers}
use Rattle.lines.specs.Through.{Fair, Schedule}
use Rattle.network.specs.Above.{Crew, Item, Call, gives, says, shares, rests, flushes, Take}
use Rattle.network.specs.Bytes.{reading}
use Rattle.network.specs.Network.{Net, NetStep, NetReach, seen}

-- All that is promised of a world holds of what is seen.
abbrev pub NetPromise : Type 0
NetPromise = (w : Net) → NetReach w → Promised (seen w)

-- What the boss has said stays said, whatever happens after.
abbrev pub NetDoneStays : Type 0
NetDoneStays = (w v : Net) → NetReach w → Runs NetStep w v → (letter : ℕ) → 1 ≤ letter → is_done w.above.boss letter ≡ true →
    (is_done v.above.boss letter ≡ true) × (is_open v.above.boss letter ≡ false) × Quiet (view letter (seen v))

-- Nobody comes to be at work but by work that was under way to it.
abbrev pub NetOnlyWorkWakes : Type 0
NetOnlyWorkWakes = (w v : Net) → NetReach w → NetStep w v → (letter i : ℕ) → 1 ≤ letter →
    (holding_at (view letter (seen w)).holdings i).working ≡ false → (holding_at (view letter (seen v)).holdings i).working ≡ true →
    (k : ℕ) × (k < length (seen w).post) × ((mail_at (seen w).post k).receiver.number ≡ i) × ((mail_at (seen w).post k).letter.number ≡ letter) × (is_work (mail_at (seen w).post k).kind ≡ true)

-- Whether a step is a give of the letter; and how many messages of the letter are taken by it.
abbrev pub call_gives : {x y : Crew} {out : List (Sent Item)} → ℕ → Call x out y → Bool
call_gives letter (gives x l to room work i) = l.number == letter
call_gives letter (says x l) = false
call_gives letter (shares x i l to peer boss work p q) = false
call_gives letter (rests x i l boss p) = false
call_gives letter (flushes x i boss p) = false

abbrev pub is_give : {w v : Net} → ℕ → NetStep w v → Bool
is_give letter (calls w out y c) = call_gives letter c
is_give letter (drifts w net h) = false
is_give letter (takes w f s r n p out y h e k t) = false
is_give letter (answers w f s r n h e) = false

abbrev pub arrivals : {w v : Net} → ℕ → NetStep w v → ℕ
arrivals letter (calls w out y c) = 0
arrivals letter (drifts w net h) = 0
arrivals letter (takes w f s r n p out y h e k t) = cond (p.mail.letter.number == letter) 1 0
arrivals letter (answers w f s r n h e) = 0

-- a run with no new give of the letter, in which so many messages of it are taken
pub data NetUngiven (letter : ℕ) : Net → Net → ℕ → Type 0 where
  still : {w : Net} → NetUngiven letter w w 0
  onward : {w v u : Net} {n : ℕ} → NetUngiven letter w v n → (s : NetStep v u) → is_give letter s ≡ false → NetUngiven letter w u (n + arrivals letter s)

-- What is quiet stays quiet without a new give of the letter, and each message of it that is taken lowers what there is
-- to come, which nothing raises: not packets that are lost, doubled or sent again.
abbrev pub NetQuietGoesOn : Type 0
NetQuietGoesOn = (w v : Net) (n : ℕ) (letter : ℕ) → 1 ≤ letter → NetReach w → Quiet (view letter (seen w)) → NetUngiven letter w v n →
    Quiet (view letter (seen v)) × (n + to_come (view letter (seen v)) ≤ to_come (view letter (seen w)))

-- all coins are back, and while the letter is open, say answers done
pub record Sayable (letter : LetterId) (w : World) : Type 0 where
  pub back : (view letter.number w).given ≡ (view letter.number w).back
  pub said : is_open w.boss letter.number ≡ true → (say_step w.boss letter).outcome.answer ≡ Done

-- When it is quiet, no message of the letter is left, and no coins wait for a place, all coins are back.
abbrev pub NetQuietIsSaid : Type 0
NetQuietIsSaid = (w : Net) (letter : LetterId) → 1 ≤ letter.number → NetReach w → Quiet (view letter.number (seen w)) →
    (view letter.number (seen w)).post ≡ [] → ((i : ℕ) → waits (holding_at (view letter.number (seen w)).holdings i) ≡ false) →
    Sayable letter (seen w)

-- worlds with the same boss and helpers, and the same messages in each queue: lines may be listed in any order
pub record Alike (w v : World) : Type 0 where
  pub boss : w.boss ≡ v.boss
  pub helpers : w.helpers ≡ v.helpers
  pub queues : (s r : NodeId) → queue s r w.post ≡ queue s r v.post

-- a step between reached worlds that are alike to what is seen before and after
pub record Carried (w v : Net) : Type 0 where
  pub before : World
  pub after : World
  pub reached : Reach before
  pub was : Alike before (seen w)
  pub step : Step before after
  pub comes : Alike after (seen v)

-- Each step is a step over lines that lose nothing, or is not seen from above.
abbrev pub LinesCarry : Type 0
LinesCarry = (w v : Net) → NetReach w → NetStep w v → Carried w v ⊎ (seen v ≡ seen w)

-- Coins that wait for a place are sent now and then.
abbrev pub SentNowAndThen : ℕ → (ℕ → Net) → Type 0
SentNowAndThen letter run = (i n : ℕ) → waits (holding_at (view letter (seen (run n))).holdings i) ≡ true →
    (m : ℕ) × (n ≤ m) × (waits (holding_at (view letter (seen (run m))).holdings i) ≡ false)

-- The letter is not given from the time n on.
abbrev pub NotGiven : {w v : Net} → ℕ → NetStep w v ⊎ (v ≡ w) → Type 0
NotGiven letter (inl s) = is_give letter s ≡ false
NotGiven letter (inr e) = Unit {0}

abbrev pub NotGivenFrom : ℕ → ℕ → (run : ℕ → Net) → Schedule Call Take reading run → Type 0
NotGivenFrom letter n run plan = (t : ℕ) → n ≤ t → NotGiven letter (plan.goes t)

-- Messages come through, so what is quiet is said: where lines are fair, and coins that wait are sent now and then, a
-- letter that is quiet and is not given any more has all its coins back at some later time.
abbrev pub NetComesToBeSaid : Type 0
NetComesToBeSaid = (run : ℕ → Net) (plan : Schedule Call Take reading run) → Fair reading run → NetReach (run 0) →
    (letter : LetterId) → 1 ≤ letter.number → SentNowAndThen letter.number run →
    (n : ℕ) → NotGivenFrom letter.number n run plan → Quiet (view letter.number (seen (run n))) →
    (m : ℕ) × (n ≤ m) × Sayable letter (seen (run m))

-- What each command does to a scene, and what is replied.
use Rattle.std.specs.Prelude.{◌≡◌, ℕ, ◌≤◌, true, false, cond, ◌⊎◌, [], length, Some, None, Ok, Err, Result, Option, MatchResult, nat_lt, slice_set}
use Rattle.std.specs.declared.alloc.AllocError.{AllocError}
use Rattle.std.specs.List.{remove}
use Rattle.coins.specs.declared.ids.LetterId.{LetterId}
use Rattle.coins.specs.declared.ids.NodeId.{NodeId}
use Rattle.coins.specs.declared.answer.Answer.{Answer}
use Rattle.coins.specs.declared.answer.Answer.TheVariants.{Fine, Refused}
use Rattle.coins.specs.declared.answer.Refusal.{Refusal}
use Rattle.coins.specs.declared.answer.Refusal.TheVariants.{Malformed, NoPlace}
use Rattle.coins.specs.declared.mail.Mail.{Mail}
use Rattle.coins.specs.declared.mail.Untaken.TheVariants.{Later, Refused as Turned}
use Rattle.coins.specs.Mails.{Taking}
use Rattle.helper_coins.specs.declared.helper.Helper.{Helper}
use Rattle.boss_coins.specs.declared.boss.Boss.{Boss}
use Rattle.coins.specs.Limits.{boss_number}
use Rattle.helper_coins.specs.Holdings.{waits}
use Rattle.helper_coins.specs.Helpers.{share_step, rest_step, flush_step, arrive_step}
use Rattle.boss_coins.specs.Bosses.{give_step, say_step, receive_step}
use Rattle.runs.specs.System.{World, helper_at, mail_at, head, Step}
use Rattle.runs.specs.Letter.{view, is_done, Quiet, holding_at}
use Rattle.stage.specs.declared.command.Command.{Command}
use Rattle.stage.specs.declared.command.Command.TheVariants.{Give, Share, Rest, Say, Pass, Flush}
use Rattle.coins.specs.Works.{no_work, Work}
use Rattle.stage.specs.Scenes.{Scene, mails, sent_on, room, seek_helper, seek_holder}

pub record Out : Type 0 where
  pub scene : Scene
  pub answer : Answer

abbrev pub boss_id : NodeId
boss_id = record { number = boss_number }

abbrev pub refuse : Scene → Refusal → Out
refuse s why = record { scene = s; answer = Refused why }

abbrev pub boss_did : Scene → Boss → Option Mail → Work → Answer → Out
boss_did s b p work a = record { scene = record { boss = b; helpers = s.helpers; parcels = sent_on p work s.parcels }; answer = a }

abbrev pub helper_did : Scene → ℕ → Helper → Option Mail → Work → Answer → Out
helper_did s i h p work a = record { scene = record { boss = s.boss; helpers = slice_set s.helpers i h; parcels = sent_on p work s.parcels }; answer = a }

abbrev pub play_give : Scene → LetterId → NodeId → Work → Out
play_give s letter to work =
    cond (nat_lt to.number (length s.helpers))
    (boss_did s (give_step s.boss letter to (room s.parcels boss_id to)).boss (give_step s.boss letter to (room s.parcels boss_id to)).outcome.post work (give_step s.boss letter to (room s.parcels boss_id to)).outcome.answer)
    (refuse s Malformed)

abbrev pub play_say : Scene → LetterId → Out
play_say s letter = record { scene = record { boss = (say_step s.boss letter).boss; helpers = s.helpers; parcels = s.parcels }; answer = (say_step s.boss letter).outcome.answer }

-- what a helper does when it is called
abbrev pub share_of : Scene → NodeId → LetterId → NodeId → Work → Out
share_of s by letter to work =
    helper_did s by.number
    (share_step (helper_at s.helpers by.number) letter to (room s.parcels by to) (room s.parcels by boss_id)).helper
    (share_step (helper_at s.helpers by.number) letter to (room s.parcels by to) (room s.parcels by boss_id)).outcome.post work
    (share_step (helper_at s.helpers by.number) letter to (room s.parcels by to) (room s.parcels by boss_id)).outcome.answer

abbrev pub play_share : Scene → NodeId → LetterId → NodeId → Work → Out
play_share s by letter to work =
    cond (nat_lt by.number (length s.helpers))
    (cond (nat_lt to.number (length s.helpers)) (share_of s by letter to work) (refuse s Malformed))
    (refuse s Malformed)

abbrev pub play_rest : Scene → NodeId → LetterId → Out
play_rest s by letter =
    cond (nat_lt by.number (length s.helpers))
    (helper_did s by.number
    (rest_step (helper_at s.helpers by.number) letter (room s.parcels by boss_id)).helper
    (rest_step (helper_at s.helpers by.number) letter (room s.parcels by boss_id)).outcome.post no_work
    (rest_step (helper_at s.helpers by.number) letter (room s.parcels by boss_id)).outcome.answer)
    (refuse s Malformed)

abbrev pub play_flush : Scene → NodeId → Out
play_flush s by =
    cond (nat_lt by.number (length s.helpers))
    (helper_did s by.number (flush_step (helper_at s.helpers by.number) (room s.parcels by boss_id)).helper (flush_step (helper_at s.helpers by.number) (room s.parcels by boss_id)).post no_work Fine)
    (refuse s Malformed)

-- what becomes of the k-th message: taken, it is under way no more
abbrev pub taken : Scene → ℕ → Taking → Out
taken s k (Ok p) = record { scene = record { boss = s.boss; helpers = s.helpers; parcels = sent_on p no_work (remove s.parcels k) }; answer = Fine }
taken s k (Err Later) = refuse s NoPlace
taken s k (Err (Turned why)) = refuse s why

abbrev pub to_helper : Scene → ℕ → NodeId → Mail → Out
to_helper s k r m =
    taken (record { boss = s.boss; helpers = slice_set s.helpers r.number (arrive_step (helper_at s.helpers r.number) m.letter m.kind (room s.parcels r boss_id)).helper; parcels = s.parcels }) k
    (arrive_step (helper_at s.helpers r.number) m.letter m.kind (room s.parcels r boss_id)).taking

abbrev pub to_boss : Scene → ℕ → NodeId → NodeId → Mail → Out
to_boss s k from r m =
    taken (record { boss = (receive_step s.boss m.sender m.letter m.kind (room s.parcels r from)).boss; helpers = s.helpers; parcels = s.parcels }) k
    (receive_step s.boss m.sender m.letter m.kind (room s.parcels r from)).taking

abbrev pub pass_at : Scene → NodeId → NodeId → ℕ → Out
pass_at s from r k =
    cond (nat_lt k (length s.parcels))
    (cond (nat_lt r.number (length s.helpers)) (to_helper s k r (mail_at (mails s.parcels) k)) (to_boss s k from r (mail_at (mails s.parcels) k)))
    (refuse s Malformed)

abbrev pub play_pass : Scene → NodeId → NodeId → Out
play_pass s from r = pass_at s from r (head (mails s.parcels) from r)

abbrev pub plays : Scene → Command → Work → Out
plays s (Give letter to) work = play_give s letter to work
plays s (Share by letter to) work = play_share s by letter to work
plays s (Rest by letter) work = play_rest s by letter
plays s (Say letter) work = play_say s letter
plays s (Pass from r) work = play_pass s from r
plays s (Flush by) work = play_flush s by

-- only what sends may find no memory for it
abbrev pub Sends : Command → Type 0
Sends (Give letter to) = Unit {0}
Sends (Share by letter to) = Unit {0}
Sends (Rest by letter) = Unit {0}
Sends (Say letter) = ⊥
Sends (Pass from to) = ⊥
Sends (Flush by) = Unit {0}

-- it is as played, and this is answered; or there was no memory, and nothing happened
abbrev pub Outcome : Out → Scene → Scene → Result Answer AllocError → Type 0
Outcome o s t r = MatchResult r (λ a. o ≡ record { scene = t; answer = a }) (λ _. t ≡ s)

-- the world went on by a step, or is the same
abbrev pub Onward : World → World → Type 0
Onward w v = Step w v ⊎ (v ≡ w)

-- only say answers done; then the letter is done, nobody is at work on it, and no work of it is under way
abbrev pub Said : Command → World → Type 0
Said (Say letter) w = (is_done w.boss letter.number ≡ true) × Quiet (view letter.number w)
Said (Give letter to) w = ⊥
Said (Share by letter to) w = ⊥
Said (Rest by letter) w = ⊥
Said (Pass from to) w = ⊥
Said (Flush by) w = ⊥

-- What comes to pass by itself: a message for a helper; else one for the boss; else coins that waited for a place go.
abbrev pub passing : Mail → Command
passing m = Pass m.sender m.receiver

abbrev pub next_of : Scene → ℕ → ℕ → Option Command
next_of s k i =
    cond (nat_lt k (length s.parcels)) (Some (passing (mail_at (mails s.parcels) k)))
    (cond (nat_lt 0 (length s.parcels)) (Some (passing (mail_at (mails s.parcels) 0)))
    (cond (nat_lt i (length s.helpers)) (Some (Flush (helper_at s.helpers i).me)) None))

abbrev pub next : Scene → Option Command
next s = next_of s (seek_helper s.parcels (length s.helpers)) (seek_holder s.helpers)

-- Messages come by themselves, one after another, from one scene to another.
pub data Lets : Scene → Scene → Type 0 where
  still : {s : Scene} → Lets s s
  onward : {s t : Scene} (c : Command) → Lets s t → next t ≡ Some c → Lets s (plays t c no_work).scene

-- nothing is under way, and no coins wait for a place
pub record Settled (w : World) : Type 0 where
  pub empty : w.post ≡ []
  pub ready : (letter i : ℕ) → 1 ≤ letter → waits (holding_at (view letter w).holdings i) ≡ false

-- what was quiet is quiet, and all its coins are back
pub record Calmed (w v : World) : Type 0 where
  pub quiet : (letter : ℕ) → 1 ≤ letter → Quiet (view letter w) → Quiet (view letter v)
  pub back : (letter : ℕ) → 1 ≤ letter → Quiet (view letter w) → (view letter v).given ≡ (view letter v).back

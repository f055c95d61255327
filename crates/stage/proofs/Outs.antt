-- What is played when a message comes, and what comes by itself.
use Rattle.std.proofs.Common.{◌≡◌, ℕ, ◌<◌, ◌≤◌, length, Some, arith, le-ltb, lt-ltb}
use Rattle.coins.specs.declared.mail.Mail.{Mail}
use Rattle.coins.specs.declared.ids.NodeId.{NodeId}
use Rattle.std.proofs.lemmas.List.Sums.{passes_at_first}
use Rattle.coins.specs.declared.answer.Refusal.TheVariants.{Malformed}
use Rattle.runs.specs.System.{no_mail, mail_at, on_line, head}
use Rattle.runs.proofs.Queued.{same_line}
use Rattle.stage.proofs.Looks.{mails_length}
use Rattle.stage.specs.declared.command.Command.{Command}
use Rattle.stage.specs.Scenes.{Scene, mails, seek_helper}
use Rattle.stage.specs.Plays.{Out, refuse, next, passing, to_helper, to_boss, play_pass}

-- a message for a helper
pub next_helper : (s : Scene) (c : Command) (k : ℕ) (m : Mail) → k ≡ seek_helper s.parcels (length s.helpers) → k < length s.parcels → mail_at (mails s.parcels) k ≡ m → c ≡ passing m → Some c ≡ next s
next_helper s c k m e l q f = rw (← e, lt-ltb k (length s.parcels) l, q, f)

-- none for a helper, and one for the boss
pub next_boss : (s : Scene) (c : Command) (k : ℕ) (m : Mail) → k ≡ seek_helper s.parcels (length s.helpers) → length s.parcels ≤ k → 0 < length s.parcels → mail_at (mails s.parcels) 0 ≡ m → c ≡ passing m → Some c ≡ next s
next_boss s c k m e l p q f = rw (← e, le-ltb k (length s.parcels) l, lt-ltb 0 (length s.parcels) p, q, f)

-- the first message on a line is of that line
first_of : (s : Scene) (from to : NodeId) (k : ℕ) (m : Mail) → k ≡ head (mails s.parcels) from to → k < length s.parcels → mail_at (mails s.parcels) k ≡ m → (from ≡ m.sender) × (to ≡ m.receiver)
first_of s from to k m e l q =
    same_line from to m (rw (← q, e) (passes_at_first (on_line from to) (mails s.parcels) no_mail (omega (arith, mails_length s.parcels))))

-- the first message of a line comes: to a helper, or to the boss; or there is none
pub pass_helper : (s : Scene) (from to : NodeId) (k : ℕ) (m : Mail) (o : Out) → k ≡ head (mails s.parcels) from to → k < length s.parcels → m.receiver.number < length s.helpers → mail_at (mails s.parcels) k ≡ m →
    to_helper s k m.receiver m ≡ o → play_pass s from to ≡ o
pass_helper s from to k m o e l i q f =
    let x = first_of s from to k m e l q in
    rw (← e, lt-ltb k (length s.parcels) l, q, x.1, lt-ltb m.receiver.number (length s.helpers) i) f

pub pass_boss : (s : Scene) (from to : NodeId) (k : ℕ) (m : Mail) (o : Out) → k ≡ head (mails s.parcels) from to → k < length s.parcels → length s.helpers ≤ m.receiver.number → mail_at (mails s.parcels) k ≡ m →
    to_boss s k m.sender m.receiver m ≡ o → play_pass s from to ≡ o
pass_boss s from to k m o e l i q f =
    let x = first_of s from to k m e l q in
    rw (← e, lt-ltb k (length s.parcels) l, q, x.0, x.1, le-ltb m.receiver.number (length s.helpers) i) f

pub pass_none : (s : Scene) (from to : NodeId) → length s.parcels ≤ head (mails s.parcels) from to → play_pass s from to ≡ refuse s Malformed
pass_none s from to l = rw (le-ltb (head (mails s.parcels) from to) (length s.parcels) l)

-- A node: its state in the protocol above, and its ends of lines. What calls and arrivals do to the lines is the same
-- for boss and helper, whatever their states are.
use Rattle.std.specs.Prelude.{◌≡◌, ℕ, ◌<◌, List, [], ◌∷◌, ◌++◌, slice_set, Option, Result, Ok, Err, IfSome, MatchResult}
use Rattle.std.specs.declared.alloc.AllocError.{AllocError}
use Rattle.coins.specs.declared.answer.Answer.{Answer}
use Rattle.coins.specs.declared.answer.Refusal.{Refusal}
use Rattle.coins.specs.declared.ids.NodeId.{NodeId}
use Rattle.coins.specs.declared.mail.Mail.{Mail}
use Rattle.coins.specs.declared.mail.Outcome.{Outcome}
use Rattle.coins.specs.Mails.{Taking}
use Rattle.coins.specs.declared.mail.Untaken.TheVariants.{Later, Refused}
use Rattle.coins.specs.Works.{Work, no_work}
use Rattle.lines.specs.declared.heard.Heard.{Heard}
use Rattle.lines.specs.declared.heard.Heard.TheVariants.{Next, Old, Ahead, Released}
use Rattle.lines.specs.declared.packet.Packet.{Packet}
use Rattle.lines.specs.Ends.{End, slot, end_at, room_of, taking}
use Rattle.lines.specs.Packets.{answer_of, kept_for, out_for, resent_all}
use Rattle.lines.specs.Hearing.{Hearing, hears}
use Rattle.nodes.specs.declared.receipt.Receipt.{Receipt}
use Rattle.nodes.specs.declared.receipt.Receipt.TheVariants.{Took as IsTaken, Old as IsOld, Ahead as IsAhead, Later as IsLater, Released as IsReleased, Refused as Turned}

pub record Node (S : Type 0) : Type 0 where
  pub state : S
  pub ends : List End

-- what a call, or bytes that come, leave, all that has gone out, and what is replied
pub record Replied (S R : Type 0) : Type 0 where
  pub node : Node S
  pub out : List Packet
  pub reply : R

-- it is as the step says; or there was no memory, and nothing happened
abbrev pub Happens : {S R : Type 0} → (Node S → List Packet → Replied S R) → Node S → List Packet → Node S → List Packet → Result R AllocError → Type 0
Happens step node out node' out' r =
    MatchResult r (λ reply. step node out ≡ record { node = node'; out = out'; reply = reply }) (λ _. (node' ≡ node) × (out' ≡ out))

-- what the protocol above makes of a message
pub record Made (S : Type 0) : Type 0 where
  pub state : S
  pub taking : Taking

-- What lines know of the protocol above: the number of one that takes part; to whom it sends, if at all, when a message
-- of a peer comes; and what it makes of the message, with so many places towards that one.
pub record Protocol (S : Type 0) : Type 0 where
  pub id : S → NodeId
  pub replies_to : S → NodeId → NodeId
  pub makes : S → Mail → ℕ → Made S

-- what is sent goes to this one, where there is a place
abbrev pub HasPlace : NodeId → ℕ → Option Mail → Type 0
HasPlace to room post = IfSome post (λ mail. (mail.receiver ≡ to) × (0 < room))

-- the places that there are towards a peer
abbrev pub room_to : List End → NodeId → ℕ
room_to es peer = room_of (end_at es (slot peer.number))

-- a call: what it sends is kept, and goes out
abbrev pub called : {S : Type 0} → NodeId → List End → List Packet → Work → S → Outcome → Replied S Answer
called me es out work s o =
    record {
      node = record { state = s; ends = kept_for o.post work es };
      out = out ++ out_for me o.post work es;
      reply = o.answer;
    }

-- number n was taken from a peer
abbrev pub took_from : List End → NodeId → ℕ → List End
took_from es peer n = slice_set es (slot peer.number) (taking (end_at es (slot peer.number)) n)

-- The next message of a line, by what the protocol above made of it: it is taken, answered for, and what is sent for
-- it goes out behind the answer; or nothing of the line changes.
abbrev pub after_taking : {S : Type 0} → NodeId → NodeId → ℕ → List End → List Packet → S → Taking → Replied S Receipt
after_taking me peer n es out s (Ok p) =
    record {
      node = record { state = s; ends = kept_for p no_work (took_from es peer n) };
      out = (out ++ answer_of me peer n ∷ []) ++ out_for me p no_work (took_from es peer n);
      reply = IsTaken;
    }
after_taking me peer n es out s (Err Later) = record { node = record { state = s; ends = es }; out = out; reply = IsLater }
after_taking me peer n es out s (Err (Refused why)) = record { node = record { state = s; ends = es }; out = out; reply = Turned why }

abbrev pub after : {S : Type 0} → NodeId → NodeId → ℕ → List End → List Packet → Made S → Replied S Receipt
after me peer n es out t = after_taking me peer n es out t.state t.taking

-- what the protocol above makes of a message, with the places that there are
abbrev pub made_of : {S : Type 0} → Protocol S → S → List End → Mail → Made S
made_of p s es mail = p.makes s mail (room_to es (p.replies_to s mail.sender))

-- the next message of a line comes, under the number n
abbrev pub takes : {S : Type 0} → Protocol S → Node S → List Packet → Mail → ℕ → Replied S Receipt
takes p node out mail n = after (p.id node.state) mail.sender n node.ends out (made_of p node.state node.ends mail)

-- nothing of the protocol above is touched
abbrev pub unmoved : {S : Type 0} → List End → S → List Packet → Receipt → Replied S Receipt
unmoved es s out r = record { node = record { state = s; ends = es }; out = out; reply = r }

-- What becomes of what was heard. A message that was taken before is answered for again.
abbrev pub by_heard : {S : Type 0} → Protocol S → NodeId → List Packet → List End → S → Result Heard Refusal → Replied S Receipt
by_heard p peer out es s (Ok (Next mail number)) = takes p (record { state = s; ends = es }) out mail number.number
by_heard p peer out es s (Ok Old) = unmoved es s (out ++ answer_of (p.id s) peer (end_at es (slot peer.number)).taken ∷ []) IsOld
by_heard p peer out es s (Ok Ahead) = unmoved es s out IsAhead
by_heard p peer out es s (Ok Released) = unmoved es s out IsReleased
by_heard p peer out es s (Err why) = unmoved es s out (Turned why)

abbrev pub by_hearing : {S : Type 0} → Protocol S → NodeId → List Packet → S → Hearing → Replied S Receipt
by_hearing p peer out s h = by_heard p peer out h.ends s h.heard

-- bytes come from a peer, whatever they are
abbrev pub receives : {S : Type 0} → Protocol S → Node S → List Packet → NodeId → List ℕ → Replied S Receipt
receives p node out peer bs = by_hearing p peer out node.state (hears (p.id node.state) peer node.ends bs)

-- all that waits for an answer goes out again
abbrev pub resends : {S : Type 0} → Protocol S → Node S → List Packet → List Packet
resends p node out = out ++ resent_all (p.id node.state) 0 node.ends

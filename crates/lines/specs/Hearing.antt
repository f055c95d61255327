-- What becomes of bytes that come over a line, whatever they are.
use Rattle.std.specs.Prelude.{ℕ, cond, ◌&&◌, List, Some, None, Option, Ok, Err, Result, ◌==◌, nat_le, slice_set}
use Rattle.coins.specs.declared.answer.Refusal.{Refusal}
use Rattle.coins.specs.declared.answer.Refusal.TheVariants.{Malformed, NotSent}
use Rattle.coins.specs.declared.ids.NodeId.{NodeId}
use Rattle.coins.specs.declared.mail.Kind.{Kind}
use Rattle.coins.specs.declared.mail.Mail.{Mail}
use Rattle.wire.specs.declared.message.Body.{Body}
use Rattle.wire.specs.declared.message.Body.TheVariants.{Numbered, Taken}
use Rattle.wire.specs.Messages.{Msg}
use Rattle.wire.specs.Bytes.{decode}
use Rattle.lines.specs.declared.end.Standing.{Standing}
use Rattle.lines.specs.declared.end.Standing.TheVariants.{Old, Next, Ahead}
use Rattle.lines.specs.declared.heard.Heard.{Heard}
use Rattle.lines.specs.declared.heard.Heard.TheVariants.{Next as IsNext, Old as IsOld, Ahead as IsAhead, Released}
use Rattle.lines.specs.Ends.{End, slot, end_at, last_sent, answered_up_to, standing}

-- what a node's ends come to, and what it heard, or why it refuses it
pub record Hearing : Type 0 where
  pub ends : List End
  pub heard : Result Heard Refusal

-- the message that a peer sends me, for the protocol above
abbrev pub mail_of : NodeId → NodeId → Msg → Kind → Mail
mail_of me peer m k = record { sender = peer; receiver = me; letter = record { number = m.letter }; kind = k }

-- a message with a number: what becomes of it by how it stands to the last that was taken
abbrev pub by_standing : Mail → ℕ → Standing → Heard
by_standing mail n Old = IsOld
by_standing mail n Next = IsNext mail (record { number = n })
by_standing mail n Ahead = IsAhead

-- an answer: for what was sent, or for more
abbrev pub by_answer : List End → ℕ → ℕ → Hearing
by_answer es i n =
    record {
      ends = slice_set es i (answered_up_to (end_at es i) n);
      heard = cond (nat_le n (last_sent (end_at es i))) (Ok Released) (Err NotSent);
    }

abbrev pub by_body : NodeId → NodeId → List End → Msg → Body → Hearing
by_body me peer es m (Numbered k) =
    record { ends = es; heard = Ok (by_standing (mail_of me peer m k) m.number (standing (end_at es (slot peer.number)) m.number)) }
by_body me peer es m Taken = by_answer es (slot peer.number) m.number

-- a message counts only on the line between its own ends
abbrev pub own_message : NodeId → NodeId → Option Msg → Option Msg
own_message me peer None = None
own_message me peer (Some m) = cond (m.sender == peer.number && m.receiver == me.number) (Some m) None

abbrev pub by_message : NodeId → NodeId → List End → Option Msg → Hearing
by_message me peer es None = record { ends = es; heard = Err Malformed }
by_message me peer es (Some m) = by_body me peer es m m.body

-- bytes come to me from a peer
abbrev pub hears : NodeId → NodeId → List End → List ℕ → Hearing
hears me peer es bs = by_message me peer es (own_message me peer (decode bs))

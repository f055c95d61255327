-- What the bytes of a packet say.
use Rattle.std.specs.Prelude.{◌≡◌, ℕ, cond, ◌&&◌, ◌⊎◌, Some, None, Option, ◌==◌, ◌≢◌}
use Rattle.coins.specs.declared.ids.NodeId.{NodeId}
use Rattle.coins.specs.declared.mail.Kind.{Kind}
use Rattle.coins.specs.declared.parcel.Parcel.{Parcel}
use Rattle.wire.specs.declared.message.Body.{Body}
use Rattle.wire.specs.declared.message.Body.TheVariants.{Numbered as IsNumbered, Taken}
use Rattle.coins.specs.Works.{bytes_of}
use Rattle.wire.specs.Rules.{Sound}
use Rattle.wire.specs.Messages.{Msg, numbered_msg, taken_msg}
use Rattle.wire.specs.Bytes.{decode}
use Rattle.wire.specs.Frames.{frame_bytes}
use Rattle.lines.specs.declared.packet.Packet.{Packet}
use Rattle.lines.specs.Ends.{slot}
use Rattle.lines.specs.Packets.{packet_of, answer_of}
use Rattle.lines.specs.Lossy.{Reading, Numbered, Answer, Nothing}
use Rattle.network.specs.Above.{Item}

abbrev pub item_of : Msg → Kind → Item
item_of m k = record { mail = record { sender = record { number = m.sender }; receiver = record { number = m.receiver }; letter = record { number = m.letter }; kind = k }; work = m.work }

-- a message is of the line from its sender to its receiver; an answer is of the line that it goes back along
abbrev pub by_body : Msg → Body → Reading Item
by_body m (IsNumbered k) = Numbered (slot m.sender) (slot m.receiver) m.number (item_of m k)
by_body m Taken = Answer (slot m.receiver) (slot m.sender) m.number

-- a message counts only on the line between its own ends
abbrev pub by_message : ℕ → ℕ → Option Msg → Reading Item
by_message s r None = Nothing
by_message s r (Some m) = cond (m.sender == s && m.receiver == r) (by_body m m.body) Nothing

unfoldable pub reading : Packet → Reading Item
reading pk = by_message pk.sender.number pk.receiver.number (decode (frame_bytes pk.frame))

-- what a parcel is to the lines
abbrev pub item_in : Parcel → Item
item_in p = record { mail = p.mail; work = bytes_of p.work }

-- A packet says what its bytes say: a message is of the packet's line, an answer of the line back; what can't be read,
-- or names other ends than the packet's, says nothing. So a packet of a parcel says the parcel, and one of an answer
-- the answer.
pub record Reads : Type 0 where
  pub numbered : (pk : Packet) (m : Msg) (k : Kind) → decode (frame_bytes pk.frame) ≡ Some m → m.body ≡ IsNumbered k → m.sender ≡ pk.sender.number → m.receiver ≡ pk.receiver.number →
      reading pk ≡ Numbered (slot pk.sender.number) (slot pk.receiver.number) m.number (item_of m k)
  pub answer : (pk : Packet) (m : Msg) → decode (frame_bytes pk.frame) ≡ Some m → m.body ≡ Taken → m.sender ≡ pk.sender.number → m.receiver ≡ pk.receiver.number →
      reading pk ≡ Answer (slot pk.receiver.number) (slot pk.sender.number) m.number
  pub strange : (pk : Packet) (m : Msg) → decode (frame_bytes pk.frame) ≡ Some m → (m.sender ≢ pk.sender.number) ⊎ (m.receiver ≢ pk.receiver.number) → reading pk ≡ Nothing
  pub unread : (pk : Packet) → decode (frame_bytes pk.frame) ≡ None → reading pk ≡ Nothing
  pub parcel : (p : Parcel) (n : ℕ) → Sound (numbered_msg p n) →
      reading (packet_of p.mail.sender p.mail.receiver n p) ≡ Numbered (slot p.mail.sender.number) (slot p.mail.receiver.number) n (item_in p)
  pub taken : (s r : NodeId) (n : ℕ) → Sound (taken_msg s.number r.number n) → reading (answer_of s r n) ≡ Answer (slot r.number) (slot s.number) n

abbrev pub PacketsAreRead : Type 0
PacketsAreRead = Reads

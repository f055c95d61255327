-- What the bytes of a packet say.
use Rattle.std.proofs.Common.{◌≡◌, ℕ, ◌⊎◌, Some, None, refl, ap, ◌∙◌, inl, inr}
use Rattle.std.proofs.lemmas.Bool.Decides.{eqb_tells}
use Rattle.std.proofs.lemmas.Bool.{eq-eqb}
use Rattle.wire.specs.Rules.{Sound}
use Rattle.wire.specs.Messages.{Msg, numbered_msg, taken_msg}
use Rattle.wire.specs.Bytes.{decode}
use Rattle.wire.specs.Frames.{frame_bytes}
use Rattle.wire.proofs.Agreed.{numbered_read, taken_read}
use Rattle.coins.specs.declared.ids.NodeId.{NodeId}
use Rattle.coins.specs.declared.parcel.Parcel.{Parcel}
use Rattle.lines.specs.declared.packet.Packet.{Packet}
use Rattle.lines.specs.Packets.{packet_of, answer_of}
use Rattle.lines.specs.Ends.{slot}
use Rattle.lines.specs.Lossy.{Numbered, Answer, Nothing}
use Rattle.network.specs.Bytes.{item_in, by_body, by_message, reading, PacketsAreRead}

-- a message between the ends of its line
own : (s r : ℕ) (m : Msg) → m.sender ≡ s → m.receiver ≡ r → by_message s r (Some m) ≡ by_body m m.body
own s r m a b = rw (eq-eqb m.sender s a, eq-eqb m.receiver r b)

other : (s r : ℕ) (m : Msg) → (m.sender ≡ s → ⊥) ⊎ (m.receiver ≡ r → ⊥) → by_message s r (Some m) ≡ Nothing
other s r m h =
    elim (eqb_tells m.sender s) [
      | inl x ↦ elim (eqb_tells m.receiver r) [
        | inl y ↦ elim h [ inl f ↦ absurd (f x.1) | inr f ↦ absurd (f y.1) ]
        | inr y ↦ rw (x.0, y.0)
      ]
      | inr x ↦ rw x.0
    ]

-- what is read of a packet, once its bytes are
module _ (pk : Packet) (m : Msg) (d : decode (frame_bytes pk.frame) ≡ Some m) where
  pub read_own : m.sender ≡ pk.sender.number → m.receiver ≡ pk.receiver.number → reading pk ≡ by_body m m.body
  unfolding reading
  read_own s r = ap (by_message pk.sender.number pk.receiver.number) d ∙ own pk.sender.number pk.receiver.number m s r

  read_strange : (m.sender ≡ pk.sender.number → ⊥) ⊎ (m.receiver ≡ pk.receiver.number → ⊥) → reading pk ≡ Nothing
  unfolding reading
  read_strange h = ap (by_message pk.sender.number pk.receiver.number) d ∙ other pk.sender.number pk.receiver.number m h

read_none : (pk : Packet) → decode (frame_bytes pk.frame) ≡ None → reading pk ≡ Nothing
unfolding reading
read_none pk d = ap (by_message pk.sender.number pk.receiver.number) d

pub read_parcel : (p : Parcel) (n : ℕ) → Sound (numbered_msg p n) →
    reading (packet_of p.mail.sender p.mail.receiver n p) ≡ Numbered (slot p.mail.sender.number) (slot p.mail.receiver.number) n (item_in p)
read_parcel p n S = read_own (packet_of p.mail.sender p.mail.receiver n p) (numbered_msg p n) (numbered_read p n S) refl refl

pub read_answer : (s r : NodeId) (n : ℕ) → Sound (taken_msg s.number r.number n) → reading (answer_of s r n) ≡ Answer (slot r.number) (slot s.number) n
read_answer s r n S = read_own (answer_of s r n) (taken_msg s.number r.number n) (taken_read s.number r.number n S) refl refl

pub packets_are_read : PacketsAreRead
packets_are_read =
    record {
      numbered = λ pk m k d b s r. read_own pk m d s r ∙ ap (by_body m) b ∙ rw (← s, ← r);
      answer = λ pk m d b s r. read_own pk m d s r ∙ ap (by_body m) b ∙ rw (← s, ← r);
      strange = read_strange;
      unread = read_none;
      parcel = read_parcel;
      taken = read_answer;
    }

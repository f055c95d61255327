-- What goes out over lines.
use Rattle.std.specs.Prelude.{◌≡◌, ℕ, suc, cond, List, [], ◌∷◌, ◌++◌, nat_lt, slice_set, Option, Some, None}
use Rattle.coins.specs.declared.ids.NodeId.{NodeId}
use Rattle.coins.specs.declared.mail.Mail.{Mail}
use Rattle.coins.specs.declared.parcel.Parcel.{Parcel}
use Rattle.coins.specs.Works.{Work}
use Rattle.coins.specs.Limits.{boss_number}
use Rattle.coins.specs.Parcels.{parcel_of}
use Rattle.wire.specs.Messages.{numbered_msg, taken_msg}
use Rattle.wire.specs.Bytes.{encode}
use Rattle.wire.specs.Frames.{framed}
use Rattle.lines.specs.declared.packet.Packet.{Packet}
use Rattle.lines.specs.Ends.{End, slot, end_at, last_sent, keeping}

-- a message under its number
abbrev pub packet_of : NodeId → NodeId → ℕ → Parcel → Packet
packet_of s r n p = record { sender = s; receiver = r; frame = framed (encode (numbered_msg p n)) }

-- s answers to r for all up to n
abbrev pub answer_of : NodeId → NodeId → ℕ → Packet
answer_of s r n = record { sender = s; receiver = r; frame = framed (encode (taken_msg s.number r.number n)) }

-- what a step sends is kept for its receiver, and goes out under the number after all before
abbrev pub kept_for : Option Mail → Work → List End → List End
kept_for None work es = es
kept_for (Some m) work es = slice_set es (slot m.receiver.number) (keeping (end_at es (slot m.receiver.number)) (parcel_of m work))

abbrev pub out_for : NodeId → Option Mail → Work → List End → List Packet
out_for me None work es = []
out_for me (Some m) work es = packet_of me m.receiver (suc (last_sent (end_at es (slot m.receiver.number)))) (parcel_of m work) ∷ []

-- messages with the numbers after n, the oldest first
unfoldable pub resent : NodeId → NodeId → ℕ → List Parcel → List Packet
resent s r n [] = []
resent s r n (p ∷ ps) = packet_of s r (suc n) p ∷ resent s r (suc n) ps

-- the peer at a place among the ends
abbrev pub peer_at : ℕ → NodeId
peer_at i = record { number = cond (nat_lt i 256) i boss_number }

-- all that is kept at the ends from place i on
unfoldable pub resent_all : NodeId → ℕ → List End → List Packet
resent_all me i [] = []
resent_all me i (e ∷ es) = resent me (peer_at i) e.answered e.waiting ++ resent_all me (suc i) es

-- some packets more go out
pub record Grew (was now : List Packet) : Type 0 where
  pub more : List Packet
  pub behind : now ≡ was ++ more

-- The ends that the code holds.
use Rattle.std.specs.Prelude.{ℕ, Bool, true, false, ◌&&◌, List, map, vec_items, vec_len, vec_capacity, Vec, nat_lt, slice_index_or, Option, Some, None}
use Rattle.lines.specs.declared.end.LineEnd.{LineEnd}
use Rattle.lines.specs.declared.ends.LineEnds.{LineEnds}
use Rattle.coins.specs.declared.mail.Mail.{Mail}
use Rattle.std.specs.declared.alloc.Global.{Global}
use Rattle.lines.specs.declared.packet.Packet.{Packet}
use Rattle.lines.specs.Ends.{End, slot, end_at, room_of}

abbrev pub end_of : LineEnd → End
end_of e = record { answered = e.answered.number; waiting = vec_items e.waiting; taken = e.taken.number }

unfoldable pub ends_in : List LineEnd → List End
ends_in es = map end_of es

abbrev pub ends_of : LineEnds → List End
ends_of e = ends_in (vec_items e.ends)

-- whether memory is ready for one message more
abbrev pub spare : LineEnd → Bool
spare e = nat_lt (vec_len e.waiting) (vec_capacity e.waiting)

unfoldable pub spares : List LineEnd → List Bool
spares es = map spare es

abbrev pub spares_of : LineEnds → List Bool
spares_of e = spares (vec_items e.ends)

abbrev pub ready : LineEnds → ℕ → Bool
ready e i = slice_index_or (spares_of e) i false

-- whether there are a place and memory for what a step sends
abbrev pub can_send : Option Mail → LineEnds → Vec Packet Global → Bool
can_send None ends out = true
can_send (Some m) ends out =
    nat_lt (vec_len out) (vec_capacity out) &&
    (nat_lt 0 (room_of (end_at (ends_of ends) (slot m.receiver.number))) && ready ends (slot m.receiver.number))

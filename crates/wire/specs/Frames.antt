-- The bytes of one message in a place that has room for the longest.
use Rattle.std.specs.Prelude.{ℕ, cond, List, length, Some, None, Option, nat_lt}
use Rattle.coins.specs.declared.bytes.Bytes.{Bytes}
use Rattle.wire.specs.Messages.{Msg}
use Rattle.wire.specs.Bytes.{encode}

-- at most 283 bytes: clauses see the list of them
abbrev pub Frame : Type 0
Frame = Bytes 283

-- the frame with these bytes, at most 283
abbrev pub framed : List ℕ → Frame
framed xs = xs

-- the bytes that it has
abbrev pub frame_bytes : Frame → List ℕ
frame_bytes f = f

-- the frame of a message, if its work is not too long
abbrev pub written : Msg → Option Frame
written m = cond (nat_lt 256 (length m.work)) None (Some (framed (encode m)))

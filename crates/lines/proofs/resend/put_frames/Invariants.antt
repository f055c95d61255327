use Rattle.std.proofs.Common.{◌≡◌, ◌++◌, take, vec_items}
use Rattle.lines.specs.Packets.{resent}
use Rattle.lines.proofs.resend.put_frames.Given as goal

abbrev pub invariant-loop-k : goal.invariant-loop-k
invariant-loop-k l = vec_items l.out ≡ vec_items l.initial.out ++ resent l.me l.peer l.answered.number (take l.k l.waiting)

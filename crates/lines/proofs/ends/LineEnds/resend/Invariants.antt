use Rattle.std.proofs.Common.{◌≡◌, ◌++◌, take, vec_items}
use Rattle.lines.specs.Packets.{resent_all}
use Rattle.lines.specs.Viewed.{ends_in}
use Rattle.lines.proofs.ends.LineEnds.resend.Given as goal

abbrev pub invariant-loop-i : goal.invariant-loop-i
invariant-loop-i l = vec_items l.out ≡ vec_items l.initial.out ++ resent_all l.me 0 (ends_in (take l.i (vec_items l.self.ends)))

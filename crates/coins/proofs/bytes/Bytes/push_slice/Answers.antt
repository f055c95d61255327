use Rattle.std.proofs.Common.{arith}
use Rattle.coins.proofs.Filling.{front_pushed, filled_pushed}
use Rattle.coins.proofs.bytes.Bytes.push_slice.Goals as goal

pub invariant_of-self : goal.invariant_of-self
invariant_of-self g c =
    filled_pushed g.row.MOST _ _ _ _ c.self.invariant (omega arith) c.copy_from_slice.ensures.after (omega arith)

pub returns-clause-ok : goal.returns-clause-ok
returns-clause-ok g c =
    rw (← c.self.view_is) (front_pushed _ _ _ _ c.copy_from_slice.ensures.after (omega arith))

use Rattle.wire.proofs.Writing.{nothing_behind}
use Rattle.wire.proofs.theorems.nothing_behind.Goals as goal

pub returns : goal.returns
returns c = nothing_behind

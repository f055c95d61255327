use Rattle.wire.proofs.Writing.{written_is_read}
use Rattle.wire.proofs.theorems.written_is_read.Goals as goal

pub returns : goal.returns
returns c = written_is_read

use Rattle.wire.proofs.Reading.{read_is_written}
use Rattle.wire.proofs.theorems.read_is_written.Goals as goal

pub returns : goal.returns
returns c = read_is_written

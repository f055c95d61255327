use Rattle.network.proofs.Read.{packets_are_read}
use Rattle.network.proofs.packets_are_read.Goals as goal

pub returns : goal.returns
returns c = packets_are_read

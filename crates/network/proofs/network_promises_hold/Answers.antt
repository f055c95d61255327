use Rattle.network.proofs.Theorems.{net_promised}
use Rattle.network.proofs.network_promises_hold.Goals as goal

pub returns : goal.returns
returns c = net_promised

use Rattle.network.proofs.Theorems.{net_done_stays}
use Rattle.network.proofs.network_done_stays.Goals as goal

pub returns : goal.returns
returns c = net_done_stays

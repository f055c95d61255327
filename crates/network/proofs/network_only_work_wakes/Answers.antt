use Rattle.network.proofs.Theorems.{net_only_work_wakes}
use Rattle.network.proofs.network_only_work_wakes.Goals as goal

pub returns : goal.returns
returns c = net_only_work_wakes

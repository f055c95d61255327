use Rattle.network.proofs.Theorems.{net_quiet_is_said}
use Rattle.network.proofs.network_quiet_is_said.Goals as goal

pub returns : goal.returns
returns c = net_quiet_is_said

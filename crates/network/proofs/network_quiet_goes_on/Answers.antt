use Rattle.network.proofs.Theorems.{net_quiet_goes_on}
use Rattle.network.proofs.network_quiet_goes_on.Goals as goal

pub returns : goal.returns
returns c = net_quiet_goes_on

use Rattle.network.proofs.Said.{comes_to_be_said}
use Rattle.network.proofs.network_comes_to_be_said.Goals as goal

pub returns : goal.returns
returns c = comes_to_be_said

use Rattle.network.proofs.Theorems.{lines_carry}
use Rattle.network.proofs.lines_carry.Goals as goal

pub returns : goal.returns
returns c = lines_carry

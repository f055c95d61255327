use Rattle.runs.proofs.Theorems.{promised}
use Rattle.runs.proofs.promises_hold.Goals as goal

pub returns : goal.returns
returns c = promised

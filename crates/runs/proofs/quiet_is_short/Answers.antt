use Rattle.runs.proofs.Theorems.{quiet_is_short}
use Rattle.runs.proofs.quiet_is_short.Goals as goal

pub returns : goal.returns
returns c = quiet_is_short

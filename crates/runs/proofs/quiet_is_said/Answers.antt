use Rattle.runs.proofs.Theorems.{quiet_is_said}
use Rattle.runs.proofs.quiet_is_said.Goals as goal

pub returns : goal.returns
returns c = quiet_is_said

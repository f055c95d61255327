use Rattle.runs.proofs.Theorems.{quiet_goes_on}
use Rattle.runs.proofs.quiet_goes_on.Goals as goal

pub returns : goal.returns
returns c = quiet_goes_on

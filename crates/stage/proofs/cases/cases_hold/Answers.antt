use Rattle.stage.proofs.Worked.{cases_hold}
use Rattle.stage.proofs.cases.cases_hold.Goals as goal

pub returns : goal.returns
returns c = cases_hold

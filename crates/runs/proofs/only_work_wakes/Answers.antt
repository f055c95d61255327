use Rattle.runs.proofs.Theorems.{only_work_wakes}
use Rattle.runs.proofs.only_work_wakes.Goals as goal

pub returns : goal.returns
returns c = only_work_wakes

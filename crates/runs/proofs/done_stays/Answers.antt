use Rattle.runs.proofs.Theorems.{done_stays}
use Rattle.runs.proofs.done_stays.Goals as goal

pub returns : goal.returns
returns c = done_stays

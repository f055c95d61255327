use Rattle.runs.specs.System.{still}
use Rattle.rehearsal.proofs.rehearsal.Playing.play.Goals as goal

pub returns-in_err-work-clause-goes : goal.returns-in_err-work-clause-goes
returns-in_err-work-clause-goes c = still

pub returns-in_default-clause-goes : goal.returns-in_default-clause-goes
returns-in_default-clause-goes c = still

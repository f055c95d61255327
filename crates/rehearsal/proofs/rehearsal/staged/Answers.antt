use Rattle.rehearsal.proofs.Acted.{at_start}
use Rattle.rehearsal.proofs.rehearsal.staged.Goals as goal

pub returns-in-Ok-clause-starts : goal.returns-in-Ok-clause-starts
returns-in-Ok-clause-starts c = at_start _ _ c.in-Ok.ensures.made

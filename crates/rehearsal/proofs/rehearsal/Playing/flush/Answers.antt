use Rattle.rehearsal.proofs.Acted.{ran}
use Rattle.rehearsal.proofs.rehearsal.Playing.flush.Goals as goal

pub returns-in_err-play-clause-goes : goal.returns-in_err-play-clause-goes
returns-in_err-play-clause-goes c = rw (← c.self.view_is) (ran c.play.ensures.goes)

pub returns-clause-goes : goal.returns-clause-goes
returns-clause-goes c = rw (← c.self.view_is) (ran c.play.ensures.goes)

use Rattle.runs.proofs.Theorems.{runs_then}
use Rattle.rehearsal.proofs.Acted.{ran}
use Rattle.rehearsal.proofs.rehearsal.Playing.act.Goals as goal

pub returns-in_err-answer-clause-goes : goal.returns-in_err-answer-clause-goes
returns-in_err-answer-clause-goes c = rw (← c.self.view_is) (ran c.play.ensures.goes)

pub returns-in_err-follow-clause-goes : goal.returns-in_err-follow-clause-goes
returns-in_err-follow-clause-goes c = rw (← c.self.view_is) (runs_then (ran c.play.ensures.goes) c.follow.ensures.goes)

pub returns-clause-goes : goal.returns-clause-goes
returns-clause-goes c = rw (← c.self.view_is) (runs_then (ran c.play.ensures.goes) c.follow.ensures.goes)

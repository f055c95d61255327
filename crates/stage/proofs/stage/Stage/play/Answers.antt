use Rattle.runs.proofs.Theorems.{promised_of}
use Rattle.stage.proofs.Played.{goes_on, reach_on, done_on}
use Rattle.stage.proofs.stage.Stage.play.Goals as goal

pub invariant_of-self : goal.invariant_of-self
invariant_of-self c = reach_on _ _ c.args.command c.args.work c.play.result c.play.ensures.does c.self.invariant

pub returns-clause-goes : goal.returns-clause-goes
returns-clause-goes c = rw (← c.self.view_is) (goes_on _ _ c.args.command c.args.work c.play.result c.play.ensures.does c.self.invariant)

pub returns-clause-promised : goal.returns-clause-promised
returns-clause-promised c = promised_of _ (reach_on _ _ c.args.command c.args.work c.play.result c.play.ensures.does c.self.invariant)

pub returns-clause-done : goal.returns-clause-done
returns-clause-done c = done_on _ _ c.args.command c.args.work c.play.result c.play.ensures.does c.self.invariant

pub returns-clause-reached : goal.returns-clause-reached
returns-clause-reached c = reach_on _ _ c.args.command c.args.work c.play.result c.play.ensures.does c.self.invariant

use Rattle.std.proofs.Common.{sym, ap, subst, arith}
use Rattle.runs.specs.System.{Reach, begin}
use Rattle.stage.specs.Scenes.{world, mails}
use Rattle.stage.proofs.stage.Stage.new.Goals as goal

pub invariant_of-result : goal.invariant_of-result
unfolding mails
invariant_of-result c = ∣ subst Reach (sym (ap world c.in_ok-table.ensures)) (begin c.args.n (omega arith)) ∣₁

pub returns-clause-reached : goal.returns-clause-reached
unfolding mails
returns-clause-reached c = ∣ subst Reach (sym (ap world c.in_ok-table.ensures)) (begin c.args.n (omega arith)) ∣₁

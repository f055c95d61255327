use Rattle.std.proofs.Common.{◌≡◌, Some, sym, subst}
use Rattle.runs.specs.System.{Reach, still}
use Rattle.runs.proofs.Theorems.{promised_of}
use Rattle.coins.specs.Works.{Work, no_work}
use Rattle.stage.specs.Scenes.{Scene, world}
use Rattle.stage.specs.Plays.{plays, next, Lets}
use Rattle.stage.proofs.Played.{runs_on, lets_on}
use Rattle.stage.proofs.Settles.{falls, calm_on, settled, calmed}
use Rattle.stage.proofs.stage.Stage.settle.Goals as goal

-- the world before this turn is one that is reached, and what came by itself in it was played, with no bytes of work
reached : (c : goal.In_ok-play) → ∥ Reach (world c.loop-command.self) ∥₁
reached c = subst (λ (s : Scene). ∥ Reach (world s) ∥₁) c.self.view_is c.self.invariant

chosen : (c : goal.In_ok-play) → next c.loop-command.self ≡ Some c.in-Some.command
chosen c = rw (← c.self.view_is) (sym c.in-Some.ensures)

played : (c : goal.In_ok-play) → plays c.loop-command.self c.in-Some.command no_work ≡ record { scene = c.play.new.self; answer = c.in_ok-play.field-0 }
played c =
    subst (λ (w : Work). plays c.loop-command.self c.in-Some.command w ≡ record { scene = c.play.new.self; answer = c.in_ok-play.field-0 })
    c.empty.ensures c.in_ok-play.ensures.does

pub loop-command-init : goal.loop-command-init
loop-command-init c = (Lets.still, still, λ letter pos q. q)

pub loop-command-smaller : goal.loop-command-smaller
loop-command-smaller c = falls c.loop-command.self c.play.new.self c.in-Some.command c.in_ok-play.field-0 (played c) (reached c) (chosen c)

pub loop-command-preserved : goal.loop-command-preserved
loop-command-preserved c = (
  lets_on _ _ _ c.in-Some.command c.in_ok-play.field-0 (played c) c.loop-command.invariant.0 (chosen c),
  runs_on _ _ _ c.loop-command.invariant.1 c.play.ensures.goes,
  calm_on (world c.args.self.now) c.loop-command.self c.play.new.self c.in-Some.command c.in_ok-play.field-0 (played c) (reached c) (chosen c) c.loop-command.invariant.2,
)

-- where nothing comes by itself any more
at_end : (c : goal.In_default) → ∥ Reach (world c.loop-command.self) ∥₁
at_end c = subst (λ (s : Scene). ∥ Reach (world s) ∥₁) c.self.view_is c.self.invariant

pub returns-clause-promised : goal.returns-clause-promised
returns-clause-promised c = promised_of _ (at_end c)

pub returns-clause-settled : goal.returns-clause-settled
returns-clause-settled c = settled c.loop-command.self (at_end c) (rw (← c.self.view_is) (sym c.in_default.ensures))

pub returns-clause-calmed : goal.returns-clause-calmed
returns-clause-calmed c =
    calmed (world c.args.self.now) (world c.loop-command.self) (at_end c) (settled c.loop-command.self (at_end c) (rw (← c.self.view_is) (sym c.in_default.ensures))) c.loop-command.invariant.2

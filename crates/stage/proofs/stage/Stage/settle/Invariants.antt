use Rattle.std.proofs.Common.{ℕ, ◌≤◌}
use Rattle.runs.specs.System.{Runs}
use Rattle.runs.specs.Letter.{view, Quiet}
use Rattle.stage.specs.Scenes.{world, load}
use Rattle.stage.specs.Plays.{Lets}
use Rattle.stage.proofs.stage.Stage.settle.Given as goal

abbrev pub invariant-loop-command : goal.invariant-loop-command
invariant-loop-command l =
    Lets l.initial.self l.self ×
    Runs (world l.initial.self) (world l.self) ×
    ((letter : ℕ) → 1 ≤ letter → Quiet (view letter (world l.initial.self)) → Quiet (view letter (world l.self)))

abbrev pub decreases-loop-command : goal.decreases-loop-command
decreases-loop-command l = load (world l.self)

use Rattle.runs.proofs.Theorems.{steps_are_moves}
use Rattle.runs.proofs.steps_are_moves.Goals as goal

pub returns : goal.returns
returns c = steps_are_moves

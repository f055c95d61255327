use Rattle.runs.proofs.Theorems.{letters_apart}
use Rattle.runs.proofs.letters_stay_apart.Goals as goal

pub returns : goal.returns
returns c = letters_apart

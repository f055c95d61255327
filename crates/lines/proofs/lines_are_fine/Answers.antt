use Rattle.lines.specs.Instance.{Sends, Notes, itself}
use Rattle.lines.proofs.Promise.{promise}
use Rattle.lines.proofs.Through.{through}
use Rattle.lines.proofs.lines_are_fine.Goals as goal

pub returns : goal.returns
returns c = (promise Sends Notes itself, through Sends Notes itself)

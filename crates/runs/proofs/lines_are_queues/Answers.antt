use Rattle.runs.proofs.Queued.{lines_are_queues}
use Rattle.runs.proofs.lines_are_queues.Goals as goal

pub returns : goal.returns
returns c = lines_are_queues

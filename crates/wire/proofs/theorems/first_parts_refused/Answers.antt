use Rattle.wire.proofs.Agreed.{first_parts_refused}
use Rattle.wire.proofs.theorems.first_parts_refused.Goals as goal

pub returns : goal.returns
returns c = first_parts_refused

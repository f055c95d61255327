use Rattle.std.proofs.Common.{◌≡◌, vec_items}
use Rattle.runs.specs.System.{crew}
use Rattle.stage.proofs.table.Table.new.Given as goal

abbrev pub invariant-loop-i : goal.invariant-loop-i
invariant-loop-i l = vec_items l.helpers ≡ crew l.i

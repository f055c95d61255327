use Rattle.std.proofs.Common.{◌≡◌, vec_items, vec_len}
use Rattle.scenes.specs.Scenes.{staff}
use Rattle.lossy_stage.specs.Tables.{helpers_in}
use Rattle.lossy_stage.proofs.table.Table.new.Given as goal

abbrev pub invariant-loop-i : goal.invariant-loop-i
invariant-loop-i l = (helpers_in (vec_items l.helpers) ≡ staff l.i) × (vec_len l.helpers ≡ l.i)

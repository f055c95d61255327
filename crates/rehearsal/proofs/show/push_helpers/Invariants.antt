use Rattle.std.proofs.Common.{◌≡◌, ◌++◌, string_bytes}
use Rattle.rehearsal.specs.Tables.{helper_rows}
use Rattle.rehearsal.proofs.show.push_helpers.Given as goal

abbrev pub invariant-loop-i : goal.invariant-loop-i
invariant-loop-i l = string_bytes l.out ≡ string_bytes l.initial.out ++ helper_rows l.stage.helpers l.letter l.i

use Rattle.std.proofs.Common.{◌≡◌, ◌++◌, take, string_bytes}
use Rattle.rehearsal.specs.Tables.{tables}
use Rattle.rehearsal.proofs.show.push_each.Given as goal

abbrev pub invariant-loop-number : goal.invariant-loop-number
invariant-loop-number l = string_bytes l.out ≡ string_bytes l.initial.out ++ tables l.stage (take l.number-index l.numbers)

use Rattle.std.proofs.Common.{◌≡◌, ◌++◌, take, string_bytes}
use Rattle.rehearsal.specs.Tables.{parcel_rows}
use Rattle.rehearsal.proofs.show.push_rows.Given as goal

abbrev pub invariant-loop-parcel : goal.invariant-loop-parcel
invariant-loop-parcel l = string_bytes l.out ≡ string_bytes l.initial.out ++ parcel_rows l.letter (take l.parcel-index l.parcels)

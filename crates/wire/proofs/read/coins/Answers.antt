use Rattle.std.proofs.Common.{w64, refl, rules}
use Rattle.wire.proofs.Numbers.{number_of_part}
use Rattle.wire.proofs.read.coins.Goals as goal

pub returns : goal.returns
returns c =
    let a = c.in_ok-coins.ensures in
    let z = number_of_part w64 c.args.rest.now 0 refl c.in_ok-coins.ensures.cases.0 c.from_be_bytes.ensures in
    search rules

use Rattle.std.proofs.Common.{w16, w64, refl, rules}
use Rattle.wire.proofs.Numbers.{number_of_part}
use Rattle.wire.proofs.Cutting.{on}
use Rattle.wire.proofs.read.body.Goals as goal

pub returns-then-work-from_be_bytes : goal.returns-then-work-from_be_bytes
returns-then-work-from_be_bytes c =
    let coins = number_of_part w64 c.args.rest.now 0 refl c.in_ok-coins-in-1.ensures.cases.0 c.from_be_bytes-coins.ensures in
    let count = number_of_part w16 c.args.rest.now 8 c.in_ok-coins-in-1.ensures.cases.1 c.in_ok-count-in-1.ensures.cases.0 c.from_be_bytes.ensures in
    let work = on c.args.rest.now 8 2 c.in_ok-coins-in-1.ensures.cases.1 c.in_ok-count-in-1.ensures.cases.1 in
    search rules

pub returns-else-work-from_be_bytes : goal.returns-else-work-from_be_bytes
returns-else-work-from_be_bytes c =
    let count = number_of_part w16 c.args.rest.now 8 c.in_ok-coins-in-1.ensures.cases.1 c.in_ok-count-in-1.ensures.cases.0 c.from_be_bytes.ensures in
    search rules

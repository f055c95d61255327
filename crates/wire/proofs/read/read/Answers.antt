use Rattle.std.proofs.Common.{w16, w32, w64, sym, refl, rules, arith}
use Rattle.wire.proofs.Numbers.{number_of_part}
use Rattle.wire.proofs.Cutting.{on, cut_short, kinded, cut_wrong, cut_whole, then_read}
use Rattle.wire.proofs.read.read.Goals as goal

pub returns-in_err-letter : goal.returns-in_err-letter
returns-in_err-letter c =
    let none = cut_short c.args.bytes.now 0 4 refl c.in_err-letter.ensures.cases (omega arith) in search rules

pub returns-in_err-sender : goal.returns-in_err-sender
returns-in_err-sender c =
    let none = cut_short c.args.bytes.now 4 2 c.in_ok-letter.ensures.cases.1 c.in_err-sender.ensures.cases (omega arith) in search rules

pub returns-in_err-receiver : goal.returns-in_err-receiver
returns-in_err-receiver c =
    let at6 = on c.args.bytes.now 4 2 c.in_ok-letter.ensures.cases.1 c.in_ok-sender.ensures.cases.1 in
    let none = cut_short c.args.bytes.now 6 2 at6 c.in_err-receiver.ensures.cases (omega arith) in search rules

pub returns-in_err-number : goal.returns-in_err-number
returns-in_err-number c =
    let at6 = on c.args.bytes.now 4 2 c.in_ok-letter.ensures.cases.1 c.in_ok-sender.ensures.cases.1 in
    let at8 = on c.args.bytes.now 6 2 at6 c.in_ok-receiver.ensures.cases.1 in
    let none = cut_short c.args.bytes.now 8 8 at8 c.in_err-number.ensures.cases (omega arith) in search rules

pub returns-in_err-kind : goal.returns-in_err-kind
returns-in_err-kind c =
    let at6 = on c.args.bytes.now 4 2 c.in_ok-letter.ensures.cases.1 c.in_ok-sender.ensures.cases.1 in
    let at8 = on c.args.bytes.now 6 2 at6 c.in_ok-receiver.ensures.cases.1 in
    let at16 = on c.args.bytes.now 8 8 at8 c.in_ok-number.ensures.cases.1 in
    let none = cut_short c.args.bytes.now 16 1 at16 (omega (arith, c.in_err-kind.ensures.cases)) (omega arith) in search rules

pub returns-in_err-body : goal.returns-in_err-body
returns-in_err-body c =
    let at6 = on c.args.bytes.now 4 2 c.in_ok-letter.ensures.cases.1 c.in_ok-sender.ensures.cases.1 in
    let at8 = on c.args.bytes.now 6 2 at6 c.in_ok-receiver.ensures.cases.1 in
    let at16 = on c.args.bytes.now 8 8 at8 c.in_ok-number.ensures.cases.1 in
    let kind = kinded c.args.bytes.now c.in_ok-kind.kind.now c.in_ok-kind.rest.now at16 c.in_ok-kind.ensures.cases.0 in
    let none = cut_wrong c.args.bytes.now c.in_ok-kind.rest.now c.in_ok-kind.kind.now kind c.in_err-body.ensures in search rules

pub returns : goal.returns
returns c =
    let bs = c.args.bytes.now in
    let at6 = on bs 4 2 c.in_ok-letter.ensures.cases.1 c.in_ok-sender.ensures.cases.1 in
    let at8 = on bs 6 2 at6 c.in_ok-receiver.ensures.cases.1 in
    let at16 = on bs 8 8 at8 c.in_ok-number.ensures.cases.1 in
    let letter = number_of_part w32 bs 0 refl c.in_ok-letter.ensures.cases.0 c.from_be_bytes.ensures in
    let sender = number_of_part w16 bs 4 c.in_ok-letter.ensures.cases.1 c.in_ok-sender.ensures.cases.0 c.from_be_bytes-2.ensures in
    let receiver = number_of_part w16 bs 6 at6 c.in_ok-receiver.ensures.cases.0 c.from_be_bytes-3.ensures in
    let number = number_of_part w64 bs 8 at8 c.in_ok-number.ensures.cases.0 c.from_be_bytes-4.ensures in
    let kind = kinded bs c.in_ok-kind.kind.now c.in_ok-kind.rest.now at16 c.in_ok-kind.ensures.cases.0 in
    let z = c.in_ok-body.ensures in
    let whole = cut_whole bs c.in_ok-kind.rest.now _ _ _ _ c.in_ok-kind.kind.now c.in_ok-body.body c.in_ok-body.work.now letter sender receiver number kind z.0 z.1 z.2 in
    then_read _ _ _ _ (c.then_some.ensures) (rw (sym c.is_fine.ensures) at whole)

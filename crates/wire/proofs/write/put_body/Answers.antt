use Rattle.std.proofs.Common.{length, rules}
use Rattle.wire.proofs.Putting.{number, then, body_put}
use Rattle.wire.proofs.write.put_body.Goals as goal

pub returns-in-Numbered-Work : goal.returns-in-Numbered-Work
returns-in-Numbered-Work c =
    let coins = number 8 c.in-Numbered-Work.coins c.put.new.frame c.to_be_bytes.ensures c.put-in-Numbered-Work.ensures in
    let count = number 2 (length c.args.work.now) c.put-in-Numbered-Work.new.frame c.to_be_bytes-in-Numbered-Work.ensures c.put-in-Numbered-Work-2.ensures in
    body_put c.args.body c.args.work.now (then (record { is = c.put.ensures }) (then coins (then count (record { is = c.put-in-Numbered-Work-3.ensures })))) (search rules)

pub returns-in-Numbered-More : goal.returns-in-Numbered-More
returns-in-Numbered-More c =
    body_put c.args.body c.args.work.now (then (record { is = c.put.ensures }) (number 8 c.in-Numbered-More.coins c.put.new.frame c.to_be_bytes-in-Numbered-More.ensures c.put-in-Numbered-More.ensures)) (search rules)

pub returns-in-Numbered-Back : goal.returns-in-Numbered-Back
returns-in-Numbered-Back c =
    body_put c.args.body c.args.work.now (then (record { is = c.put.ensures }) (number 8 c.in-Numbered-Back.coins c.put.new.frame c.to_be_bytes-in-Numbered-Back.ensures c.put-in-Numbered-Back.ensures)) (search rules)

pub returns-in-Numbered-NoMore : goal.returns-in-Numbered-NoMore
returns-in-Numbered-NoMore c =
    body_put c.args.body c.args.work.now (then (record { is = c.put.ensures }) (number 8 0 c.put.new.frame c.to_be_bytes-in-Numbered-NoMore.ensures c.put-in-Numbered-NoMore.ensures)) (search rules)

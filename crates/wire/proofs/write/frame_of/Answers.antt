use Rattle.wire.specs.Bytes.{encode}
use Rattle.wire.proofs.Putting.{number, then}
use Rattle.wire.proofs.write.frame_of.Goals as goal

pub returns : goal.returns
unfolding encode
returns c =
    let m = c.args.message.now in
    let letter = number 4 m.letter.number c.empty-frame.result c.to_be_bytes.ensures c.put.ensures in
    let sender = number 2 m.sender.number c.put.new.frame c.to_be_bytes-2.ensures c.put-2.ensures in
    let receiver = number 2 m.receiver.number c.put-2.new.frame c.to_be_bytes-3.ensures c.put-3.ensures in
    let n = number 8 m.number.number c.put-3.new.frame c.to_be_bytes-4.ensures c.put-4.ensures in
    rw c.empty-frame.ensures at (then letter (then sender (then receiver (then n (record { is = c.put_body.ensures }))))).is

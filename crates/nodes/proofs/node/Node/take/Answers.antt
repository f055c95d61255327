use Rattle.std.proofs.Common.{◌≡◌, Bool, true, false, List, get_or, sym, ap, ◌∙◌, subst, arith}
use Rattle.coins.specs.declared.ids.NodeId.{NodeId}
use Rattle.lines.specs.Ends.{End, slot}
use Rattle.lines.specs.Viewed.{ends_of, ready}
use Rattle.nodes.specs.Arrivals.{HasPlace, room_to}
use Rattle.nodes.proofs.Places.{can, room_taken}
use Rattle.nodes.proofs.node.Node.take.Goals as goal

pub send-requires : goal.send-requires
send-requires g c =
    let was = c.reserve.new.self in
    let ends = c.take.new.self in
    let to = c.replies_to-to.result in
    let t : room_to (ends_of ends) to ≡ room_to (ends_of was) to = ap (λ (es : List End). room_to es to) c.take.ensures.after ∙ room_taken (ends_of was) c.args.mail.sender to c.args.number.number in
    let q : ready ends (slot to.number) ≡ true = ap (λ (bs : List Bool). get_or bs (slot to.number) false) c.take.ensures.memory ∙ c.in_ok-reserve.ensures.ready in
    can ends c.push_reserved.new.self to c.room.result c.in-Ok.post
    (subst (λ (x : NodeId). HasPlace x c.room.result c.in-Ok.post) (sym c.replies_to-to.ensures) c.in-Ok.ensures.fits) (c.room.ensures ∙ sym t) q
    (omega (arith, c.push_reserved.ensures.len, c.push_reserved.ensures.capacity, c.requires.memory))

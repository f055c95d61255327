use Rattle.std.proofs.Common.{◌<◌, length, vec_items, sym, append-nil}
use Rattle.lines.specs.Packets.{resent_all}
use Rattle.lines.specs.Viewed.{ends_in}
use Rattle.lines.proofs.Resends.{ends_more}
use Rattle.lines.proofs.ends.LineEnds.resend.Goals as goal

pub loop-i-init : goal.loop-i-init
unfolding resent_all ends_in
loop-i-init c = sym (append-nil (vec_items c.args.out.now))

pub loop-i-preserved : goal.loop-i-preserved
loop-i-preserved c =
    let v = c.deref-end-items.ensures.value in
    let x = c.end-item.result in
    let l : c.loop-i.i < length (vec_items c.args.self.now.ends) = rw v at c.loop-i-test.true in
    ends_more _ _ _ _ _ (vec_items c.args.self.now.ends) c.loop-i.i x c.loop-i.invariant l (rw v at c.end-item.is) c.peer_at.ensures c.in_ok-resend.ensures.all

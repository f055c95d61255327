use Rattle.std.proofs.Common.{vec_items, sym, append-nil, arith}
use Rattle.lines.specs.Packets.{resent}
use Rattle.lines.proofs.Resends.{frames_more}
use Rattle.lines.proofs.resend.put_frames.Goals as goal

pub loop-k-init : goal.loop-k-init
unfolding resent
loop-k-init c = sym (append-nil (vec_items c.args.out.now))

pub loop-k-preserved : goal.loop-k-preserved
loop-k-preserved c = frames_more _ _ _ _ _ _ _ c.args.waiting.now c.loop-k.k c.index-waiting-k.result _ c.loop-k.invariant c.loop-k-test.true (omega arith) c.index-waiting-k.is c.numbered.ensures c.in_ok-push.ensures.items

use Rattle.std.proofs.Common.{◌≡◌, ◌⊎◌, inl, inr, true, subst, arith, ap, ◌∙◌}
use Rattle.coins.specs.declared.ids.NodeId.{NodeId}
use Rattle.helper_coins.specs.Helpers.{Called}
use Rattle.lines.specs.Ends.{slot}
use Rattle.lines.specs.Viewed.{ends_of, ready}
use Rattle.nodes.specs.Arrivals.{HasPlace, room_to}
use Rattle.nodes.specs.BossSteps.{boss_id}
use Rattle.nodes.proofs.Places.{can, share_fits}
use Rattle.nodes.proofs.helper.Node+Helper.share.Goals as goal

pub send-requires : goal.send-requires
send-requires c =
    let ends = c.reserve-2.new.self in
    let out = c.reserve-3.new.self in
    let to = c.args.to in
    let peer = c.room-peer.result in
    let boss = c.room-boss.result in
    let rb : boss ≡ room_to (ends_of ends) boss_id = c.room-boss.ensures ∙ ap (room_to (ends_of ends)) c.boss-2.ensures in
    let qb : ready ends (slot boss_id.number) ≡ true = subst (λ (x : NodeId). ready ends (slot x.number) ≡ true) c.boss.ensures c.in_ok-reserve-2.ensures.ready in
    let qp : ready ends (slot to.number) ≡ true = c.reserve-2.ensures.memory (slot to.number) c.in_ok-reserve.ensures.ready in
    let fits = subst (λ (d : Called). HasPlace to peer d.outcome.post ⊎ HasPlace boss_id boss d.outcome.post) c.share-done.ensures (share_fits c.args.self.now.member c.args.letter to peer boss) in
    elim fits [
      | inl h ↦ can ends out to peer c.share-done.result.post h c.room-peer.ensures qp (omega (arith, c.in_ok-reserve-3.ensures.ok))
      | inr h ↦ can ends out boss_id boss c.share-done.result.post h rb qb (omega (arith, c.in_ok-reserve-3.ensures.ok))
    ]

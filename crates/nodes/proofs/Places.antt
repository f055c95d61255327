-- What a step sends has a place: steps send only where there is one.
use Rattle.std.proofs.Common.{◌≡◌, ℕ, zero, suc, ◌<◌, ◌⊎◌, true, List, vec_len, vec_capacity, Vec, refl, arith, Option, Some, None, IfOk}
use Rattle.std.specs.declared.alloc.Global.{Global}
use Rattle.std.proofs.lemmas.Bool.{lt-ltb}
use Rattle.std.proofs.lemmas.Grind.{common_steps}
use Rattle.coins.specs.declared.ids.LetterId.{LetterId}
use Rattle.coins.specs.declared.ids.NodeId.{NodeId}
use Rattle.coins.specs.declared.mail.Kind.{Kind}
use Rattle.coins.specs.declared.mail.Kind.TheVariants.{Work, More, Back, NoMore, Ask}
use Rattle.coins.specs.declared.mail.Mail.{Mail}
use Rattle.boss_coins.specs.declared.boss.Boss.{Boss}
use Rattle.boss_coins.specs.Bosses.{receive_step}
use Rattle.helper_coins.specs.declared.helper.Helper.{Helper}
use Rattle.helper_coins.specs.Helpers.{share_step}
use Rattle.lines.specs.declared.ends.LineEnds.{LineEnds}
use Rattle.lines.specs.declared.packet.Packet.{Packet}
use Rattle.lines.specs.Ends.{End, slot}
use Rattle.lines.specs.Viewed.{ends_of, ready, can_send}
use Rattle.nodes.specs.Arrivals.{HasPlace, room_to, took_from}
use Rattle.nodes.specs.BossSteps.{boss_id}

-- what has a place can be sent, where memory was made ready for it
pub can : (ends : LineEnds) (out : Vec Packet Global) (to : NodeId) (room : ℕ) (post : Option Mail) → HasPlace to room post → room ≡ room_to (ends_of ends) to → ready ends (slot to.number) ≡ true → vec_len out < vec_capacity out → can_send post ends out ≡ true
can ends out to room None h r q l = refl
can ends out to room (Some m) h r q l =
    let a = lt-ltb _ _ l in
    let b = lt-ltb 0 (room_to (ends_of ends) to) (omega (arith, r, h.1)) in
    rw (h.0, a, b, q) refl

-- what the boss sends for a message goes to its sender
pub boss_fits : (b : Boss) (peer : NodeId) (letter : LetterId) (kind : Kind) (room : ℕ) → IfOk (receive_step b peer letter kind room).taking (HasPlace peer room)
boss_fits b peer letter (Back c) room = grind (arith, common_steps)
boss_fits b peer letter Ask zero = tt
boss_fits b peer letter Ask (suc room) = grind (arith, common_steps)
boss_fits b peer letter (Work c) room = tt
boss_fits b peer letter (More c) room = tt
boss_fits b peer letter NoMore room = tt

-- what a helper sends where it shares goes to the helper that it shares with, or to the boss
pub share_fits : (h : Helper) (letter : LetterId) (to : NodeId) (peer boss : ℕ) → HasPlace to peer (share_step h letter to peer boss).outcome.post ⊎ HasPlace boss_id boss (share_step h letter to peer boss).outcome.post
share_fits h letter to peer boss = grind (arith, common_steps)

-- what was taken leaves the places as they were
pub room_taken : (es : List End) (peer to : NodeId) (n : ℕ) → room_to (took_from es peer n) to ≡ room_to es to
room_taken es peer to n = grind (arith, common_steps)

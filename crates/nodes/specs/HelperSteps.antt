-- Every step of a helper with its lines.
use Rattle.std.specs.Prelude.{ℕ, List, replicate}
use Rattle.coins.specs.declared.answer.Answer.{Answer}
use Rattle.coins.specs.declared.answer.Answer.TheVariants.{Fine}
use Rattle.coins.specs.declared.ids.LetterId.{LetterId}
use Rattle.coins.specs.declared.ids.NodeId.{NodeId}
use Rattle.coins.specs.Works.{Work, no_work}
use Rattle.helper_coins.specs.declared.helper.Helper.{Helper}
use Rattle.helper_coins.specs.Helpers.{Called, TookIn, Flushed, new_helper, share_step, rest_step, flush_step, arrive_step}
use Rattle.lines.specs.declared.packet.Packet.{Packet}
use Rattle.lines.specs.Ends.{fresh_end}
use Rattle.nodes.specs.declared.receipt.Receipt.{Receipt}
use Rattle.nodes.specs.Arrivals.{Node, Replied, Made, Protocol, room_to, called, receives, resends}
use Rattle.nodes.specs.BossSteps.{boss_id}

abbrev pub new_helper_node : NodeId → Node Helper
new_helper_node me = record { state = new_helper me; ends = replicate 257 fresh_end }

abbrev pub helper_did : Node Helper → List Packet → Work → Called → Replied Helper Answer
helper_did h out work d = called h.state.me h.ends out work d.helper d.outcome

-- Share: work for a helper, with half of the coins
abbrev pub share_node : Node Helper → List Packet → LetterId → NodeId → Work → Replied Helper Answer
share_node h out letter to work = helper_did h out work (share_step h.state letter to (room_to h.ends to) (room_to h.ends boss_id))

-- Rest: all coins go back
abbrev pub rest_node : Node Helper → List Packet → LetterId → Replied Helper Answer
rest_node h out letter = helper_did h out no_work (rest_step h.state letter (room_to h.ends boss_id))

-- what a helper makes of a message; what it sends for it goes to the boss
abbrev pub made_helper : TookIn → Made Helper
made_helper t = record { state = t.helper; taking = t.taking }

abbrev pub helper_protocol : Protocol Helper
helper_protocol =
    record {
      id = λ h. h.me;
      replies_to = λ _ _. boss_id;
      makes = λ h mail room. made_helper (arrive_step h mail.letter mail.kind room);
    }

-- bytes come from a peer, whatever they are
abbrev pub helper_hears : Node Helper → List Packet → NodeId → List ℕ → Replied Helper Receipt
helper_hears = receives helper_protocol

-- A tick: all that waits for an answer goes out again; then coins that waited for a place are sent, of one letter, if
-- there is a place.
abbrev pub flushed : Node Helper → List Packet → Flushed → Replied Helper Answer
flushed h out d = called h.state.me h.ends out no_work d.helper (record { answer = Fine; post = d.post })

abbrev pub flush_node : Node Helper → List Packet → Replied Helper Answer
flush_node h out = flushed h out (flush_step h.state (room_to h.ends boss_id))

abbrev pub helper_ticks : Node Helper → List Packet → Replied Helper Answer
helper_ticks h out = flush_node h (resends helper_protocol h out)

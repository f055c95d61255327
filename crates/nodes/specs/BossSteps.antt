-- Every step of the boss with its lines.
use Rattle.std.specs.Prelude.{ℕ, List, replicate}
use Rattle.coins.specs.declared.answer.Answer.{Answer}
use Rattle.coins.specs.declared.answer.Answer.TheVariants.{Fine}
use Rattle.coins.specs.declared.ids.LetterId.{LetterId}
use Rattle.coins.specs.declared.ids.NodeId.{NodeId}
use Rattle.coins.specs.Works.{Work}
use Rattle.coins.specs.Limits.{boss_number}
use Rattle.boss_coins.specs.declared.boss.Boss.{Boss}
use Rattle.boss_coins.specs.Bosses.{Called, TookIn, new_boss, give_step, say_step, receive_step}
use Rattle.lines.specs.declared.packet.Packet.{Packet}
use Rattle.lines.specs.Ends.{fresh_end}
use Rattle.nodes.specs.declared.receipt.Receipt.{Receipt}
use Rattle.nodes.specs.Arrivals.{Node, Replied, Made, Protocol, room_to, called, receives, resends}

abbrev pub boss_id : NodeId
boss_id = record { number = boss_number }

abbrev pub new_boss_node : Node Boss
new_boss_node = record { state = new_boss; ends = replicate 257 fresh_end }

abbrev pub boss_did : Node Boss → List Packet → Work → Called → Replied Boss Answer
boss_did b out work d = called boss_id b.ends out work d.boss d.outcome

-- Give: work for a helper
abbrev pub give_node : Node Boss → List Packet → LetterId → NodeId → Work → Replied Boss Answer
give_node b out letter to work = boss_did b out work (give_step b.state letter to (room_to b.ends to))

-- Say: done, if all coins came back; nothing is sent
abbrev pub say_node : Node Boss → List Packet → LetterId → Replied Boss Answer
say_node b out letter =
    record { node = record { state = (say_step b.state letter).boss; ends = b.ends }; out = out; reply = (say_step b.state letter).outcome.answer }

-- what the boss makes of a message from a peer; what it sends for it goes to that one
abbrev pub made_boss : TookIn → Made Boss
made_boss t = record { state = t.boss; taking = t.taking }

abbrev pub boss_protocol : Protocol Boss
boss_protocol =
    record {
      id = λ _. boss_id;
      replies_to = λ _ peer. peer;
      makes = λ boss mail room. made_boss (receive_step boss mail.sender mail.letter mail.kind room);
    }

-- bytes come from a peer, whatever they are
abbrev pub boss_hears : Node Boss → List Packet → NodeId → List ℕ → Replied Boss Receipt
boss_hears = receives boss_protocol

-- a tick: all that waits for an answer goes out again
abbrev pub boss_ticks : Node Boss → List Packet → Replied Boss Answer
boss_ticks b out = record { node = b; out = resends boss_protocol b out; reply = Fine }

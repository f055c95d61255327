-- What each command does to a scene, and what is replied.
use Rattle.std.specs.Prelude.{ℕ, suc, ◌-◌, Bool, true, false, cond, ◌&&◌, List, [], ◌∷◌, ◌++◌, length, ◌==◌, nat_lt, slice_index_or, slice_set, Ok, Err, Result}
use Rattle.std.specs.List.{remove}
use Rattle.coins.specs.declared.answer.Answer.TheVariants.{Fine, Refused}
use Rattle.coins.specs.declared.answer.Refusal.{Refusal}
use Rattle.coins.specs.declared.answer.Refusal.TheVariants.{Malformed}
use Rattle.coins.specs.declared.ids.LetterId.{LetterId}
use Rattle.coins.specs.declared.ids.NodeId.{NodeId}
use Rattle.coins.specs.declared.mail.Kind.TheVariants.{Work as Works}
use Rattle.coins.specs.declared.parcel.Parcel.{Parcel}
use Rattle.coins.specs.Works.{Work}
use Rattle.coins.specs.Limits.{boss_number}
use Rattle.boss_coins.specs.declared.boss.Boss.{Boss}
use Rattle.helper_coins.specs.declared.helper.Helper.{Helper}
use Rattle.wire.specs.Frames.{frame_bytes}
use Rattle.lines.specs.declared.heard.Heard.{Heard}
use Rattle.lines.specs.declared.heard.Heard.TheVariants.{Next, Old, Ahead, Released}
use Rattle.lines.specs.declared.packet.Packet.{Packet}
use Rattle.lines.specs.Ends.{End, slot, end_at}
use Rattle.lines.specs.Packets.{packet_of, answer_of}
use Rattle.lines.specs.Hearing.{hears}
use Rattle.nodes.specs.Arrivals.{Node, Replied}
use Rattle.nodes.specs.BossSteps.{give_node, say_node, boss_hears, boss_ticks}
use Rattle.nodes.specs.HelperSteps.{share_node, rest_node, helper_hears, helper_ticks}
use Rattle.scenes.specs.declared.command.Command.{Command}
use Rattle.scenes.specs.declared.command.Command.TheVariants.{Give, Share, Rest, Say, Tick, Pass, Lose, Twice, Late, Come}
use Rattle.scenes.specs.declared.command.Pick.{Pick}
use Rattle.scenes.specs.declared.command.Response.{Response}
use Rattle.scenes.specs.declared.command.Response.TheVariants.{Answered, Came}
use Rattle.scenes.specs.Scenes.{Scene, node_at, ends_at}

pub record Out : Type 0 where
  pub scene : Scene
  pub response : Response

abbrev pub refuse : Scene → Refusal → Out
refuse s why = record { scene = s; response = Answered (Refused why) }

abbrev pub is_there : Scene → NodeId → Bool
is_there s i = nat_lt i.number (length s.helpers)

abbrev pub is_boss : NodeId → Bool
is_boss i = i.number == boss_number

abbrev pub boss_is : Scene → Node Boss → List Packet → Scene
boss_is s b net = record { boss = b; helpers = s.helpers; net = net }

abbrev pub helper_is : Scene → ℕ → Node Helper → List Packet → Scene
helper_is s i h net = record { boss = s.boss; helpers = slice_set s.helpers i h; net = net }

abbrev pub net_is : Scene → List Packet → Scene
net_is s net = record { boss = s.boss; helpers = s.helpers; net = net }

-- by what a node did; `tell` says how its reply is told
abbrev pub boss_did : {R : Type 0} → Scene → (R → Response) → Replied Boss R → Out
boss_did s tell d = record { scene = boss_is s d.node d.out; response = tell d.reply }

abbrev pub helper_did : {R : Type 0} → Scene → ℕ → (R → Response) → Replied Helper R → Out
helper_did s i tell d = record { scene = helper_is s i d.node d.out; response = tell d.reply }

-- calls
abbrev pub play_give : Scene → LetterId → NodeId → Work → Out
play_give s letter to work = cond (is_there s to) (boss_did s Answered (give_node s.boss s.net letter to work)) (refuse s Malformed)

abbrev pub play_say : Scene → LetterId → Out
play_say s letter = boss_did s Answered (say_node s.boss s.net letter)

abbrev pub play_share : Scene → NodeId → LetterId → NodeId → Work → Out
play_share s by letter to work =
    cond (is_there s by && is_there s to)
    (helper_did s by.number Answered (share_node (node_at s.helpers by.number) s.net letter to work))
    (refuse s Malformed)

abbrev pub play_rest : Scene → NodeId → LetterId → Out
play_rest s by letter =
    cond (is_there s by) (helper_did s by.number Answered (rest_node (node_at s.helpers by.number) s.net letter)) (refuse s Malformed)

abbrev pub play_tick : Scene → NodeId → Out
play_tick s by =
    cond (is_there s by) (helper_did s by.number Answered (helper_ticks (node_at s.helpers by.number) s.net))
    (cond (is_boss by) (boss_did s Answered (boss_ticks s.boss s.net)) (refuse s Malformed))

-- bytes come to a node from a peer
abbrev pub bytes_come : Scene → NodeId → NodeId → List ℕ → Out
bytes_come s peer to bs =
    cond (is_there s to) (helper_did s to.number Came (helper_hears (node_at s.helpers to.number) s.net peer bs))
    (cond (is_boss to) (boss_did s Came (boss_hears s.boss s.net peer bs)) (refuse s Malformed))

-- the packet with so many others of its line before it, or how many packets there are
abbrev pub goes_on : NodeId → NodeId → Packet → Bool
goes_on s r p = p.sender.number == s.number && p.receiver.number == r.number

unfoldable pub seek_packet : List Packet → NodeId → NodeId → ℕ → ℕ
seek_packet [] s r k = 0
seek_packet (p ∷ ps) s r k = cond (goes_on s r p) (cond (k == 0) 0 (suc (seek_packet ps s r (k - 1)))) (suc (seek_packet ps s r k))

abbrev pub picked : Scene → Pick → ℕ
picked s pick = seek_packet s.net pick.sender pick.receiver pick.before

abbrev pub no_packet : Packet
no_packet = record { sender = record { number = 0 }; receiver = record { number = 0 }; frame = [] }

abbrev pub packet_at : List Packet → ℕ → Packet
packet_at ps j = slice_index_or ps j no_packet

-- it comes, and is on its way no more
abbrev pub without : Out → ℕ → Out
without o j = record { scene = net_is o.scene (remove o.scene.net j); response = o.response }

abbrev pub pass_at : Scene → ℕ → Packet → Out
pass_at s j p = without (bytes_come s p.sender p.receiver (frame_bytes p.frame)) j

abbrev pub done : Scene → List Packet → Out
done s net = record { scene = net_is s net; response = Answered Fine }

abbrev pub by_packet : Scene → ℕ → Out → Out
by_packet s j o = cond (nat_lt j (length s.net)) o (refuse s Malformed)

abbrev pub play_pass : Scene → ℕ → Out
play_pass s j = by_packet s j (pass_at s j (packet_at s.net j))

abbrev pub play_lose : Scene → ℕ → Out
play_lose s j = by_packet s j (done s (remove s.net j))

abbrev pub play_twice : Scene → ℕ → Out
play_twice s j = by_packet s j (done s (s.net ++ packet_at s.net j ∷ []))

abbrev pub play_late : Scene → ℕ → Out
play_late s j = by_packet s j (done s (remove s.net j ++ packet_at s.net j ∷ []))

-- What a line keeps comes through, without a packet that is on its way: e is the sender's end, t what the receiver
-- took. The next message is sent again and comes; where all were taken, the receiver's answer does.
abbrev pub no_parcel : Parcel
no_parcel = record { mail = record { sender = record { number = 0 }; receiver = record { number = 0 }; letter = record { number = 0 }; kind = Works 0 }; work = [] }

abbrev pub come_by : Scene → NodeId → NodeId → End → ℕ → Out
come_by s from r e t =
    cond (nat_lt (t - e.answered) (length e.waiting))
    (bytes_come s from r (frame_bytes (packet_of from r (suc t) (slice_index_or e.waiting (t - e.answered) no_parcel)).frame))
    (bytes_come s r from (frame_bytes (answer_of r from t).frame))

abbrev pub is_node : Scene → NodeId → Bool
is_node s i = cond (is_there s i) true (is_boss i)

abbrev pub play_come : Scene → NodeId → NodeId → Out
play_come s from r =
    cond (is_node s from && is_node s r)
    (come_by s from r (end_at (ends_at s (slot from.number)) (slot r.number)) (end_at (ends_at s (slot r.number)) (slot from.number)).taken)
    (refuse s Malformed)

abbrev pub plays : Scene → Command → Work → Out
plays s (Give letter to) work = play_give s letter to work
plays s (Share by letter to) work = play_share s by letter to work
plays s (Rest by letter) work = play_rest s by letter
plays s (Say letter) work = play_say s letter
plays s (Tick by) work = play_tick s by
plays s (Pass pick) work = play_pass s (picked s pick)
plays s (Lose pick) work = play_lose s (picked s pick)
plays s (Twice pick) work = play_twice s (picked s pick)
plays s (Late pick) work = play_late s (picked s pick)
plays s (Come from r) work = play_come s from r

-- Bytes that nobody sent come to a node. Those that would be taken, or would release what is kept, are made up well:
-- they are not played.
abbrev pub is_harmless : Result Heard Refusal → Bool
is_harmless (Ok (Next mail number)) = false
is_harmless (Ok Old) = true
is_harmless (Ok Ahead) = true
is_harmless (Ok Released) = false
is_harmless (Err why) = true

abbrev pub play_bring : Scene → NodeId → NodeId → List ℕ → Out
play_bring s from r bs =
    cond (is_node s r)
    (cond (is_harmless (hears r from (ends_at s (slot r.number)) bs).heard) (bytes_come s from r bs) (refuse s Malformed))
    (refuse s Malformed)

-- A boss, helpers, and the packets between them; and the system that they are a state of.
use Rattle.std.specs.Prelude.{◌≡◌, ℕ, zero, suc, ◌<◌, ◌≤◌, true, cond, List, [], ◌∷◌, ◌++◌, map, length, ◌==◌, nat_lt, slice_index_or}
use Rattle.coins.specs.declared.parcel.Parcel.{Parcel}
use Rattle.coins.specs.Works.{bytes_of}
use Rattle.boss_coins.specs.declared.boss.Boss.{Boss}
use Rattle.helper_coins.specs.declared.helper.Helper.{Helper}
use Rattle.runs.specs.System.{no_helper}
use Rattle.lines.specs.declared.packet.Packet.{Packet}
use Rattle.lines.specs.Ends.{End, end_at, last_sent}
use Rattle.lines.specs.Fits.{all_fit}
use Rattle.lines.specs.Lossy.{Line}
use Rattle.nodes.specs.Arrivals.{Node}
use Rattle.nodes.specs.BossSteps.{new_boss_node}
use Rattle.nodes.specs.HelperSteps.{new_helper_node}
use Rattle.network.specs.Above.{Item}
use Rattle.network.specs.Network.{Net}

pub record Scene : Type 0 where
  pub boss : Node Boss
  pub helpers : List (Node Helper)
  pub net : List Packet

-- helpers numbered from 0
unfoldable pub staff : ℕ → List (Node Helper)
staff zero = []
staff (suc n) = staff n ++ new_helper_node (record { number = n }) ∷ []

-- nothing has happened yet, with so many helpers
abbrev pub opening : ℕ → Scene
opening n = record { boss = new_boss_node; helpers = staff n; net = [] }

-- what stands at a number that no helper has
abbrev pub no_node : Node Helper
no_node = record { state = no_helper; ends = [] }

abbrev pub node_at : List (Node Helper) → ℕ → Node Helper
node_at hs i = slice_index_or hs i no_node

-- the ends of lines at a place: helpers by their numbers, the boss at 256
abbrev pub ends_at : Scene → ℕ → List End
ends_at s i = cond (nat_lt i 256) (node_at s.helpers i).ends (cond (i == 256) s.boss.ends [])

abbrev pub item_of : Parcel → Item
item_of p = record { mail = p.mail; work = bytes_of p.work }

-- the line from one place to another: what its sender keeps, and how far its receiver took it
abbrev pub line_from : End → End → Line Item
line_from e f = record { answered = e.answered; waiting = map item_of e.waiting; taken = f.taken }

abbrev pub line_of : Scene → ℕ → ℕ → Line Item
line_of s a b = line_from (end_at (ends_at s a) b) (end_at (ends_at s b) a)

unfoldable pub states_of : List (Node Helper) → List Helper
states_of hs = map (λ (h : Node Helper). h.state) hs

-- the state of the system that a scene is
abbrev pub net_of : Scene → Net
net_of s = record { above = record { boss = s.boss.state; helpers = states_of s.helpers }; line = line_of s; net = s.net }

-- What the code's own types hold: an end for each peer, and what waits can be written.
pub record FirmEnds (es : List End) : Type 0 where
  pub all : length es ≡ 257
  pub fit : (i : ℕ) → all_fit (end_at es i).waiting ≡ true
  pub low : (i : ℕ) → last_sent (end_at es i) ≤ 9223372036854775808
  pub high : (i : ℕ) → (end_at es i).taken < 18446744073709551616

pub record Firm (s : Scene) : Type 0 where
  pub boss : FirmEnds s.boss.ends
  pub helpers : (i : ℕ) → i < length s.helpers → FirmEnds (node_at s.helpers i).ends

-- What is played is a run of the system.
use Rattle.std.specs.Prelude.{ℕ, List}
use Rattle.coins.specs.declared.ids.NodeId.{NodeId}
use Rattle.coins.specs.Works.{Work}
use Rattle.lines.specs.Runs.{Runs}
use Rattle.network.specs.Network.{NetStep, NetReach}
use Rattle.scenes.specs.declared.command.Command.{Command}
use Rattle.scenes.specs.Scenes.{Scene, net_of, Firm}
use Rattle.scenes.specs.Plays.{plays, play_bring}

-- each command is a run of the system, from a scene that is reached to the scene that it leaves
abbrev pub PlaysGo : Type 0
PlaysGo = (s : Scene) (c : Command) (work : Work) → Firm s → Firm (plays s c work).scene → NetReach (net_of s) →
    Runs NetStep (net_of s) (net_of (plays s c work).scene)

-- so are bytes that nobody sent
abbrev pub BytesGo : Type 0
BytesGo = (s : Scene) (sender receiver : NodeId) (bs : List ℕ) → Firm s → Firm (play_bring s sender receiver bs).scene → NetReach (net_of s) →
    Runs NetStep (net_of s) (net_of (play_bring s sender receiver bs).scene)

-- The node that the code holds.
use Rattle.lines.specs.Viewed.{ends_of}
use Rattle.nodes.specs.declared.node.Node.{Node as Held}
use Rattle.nodes.specs.Arrivals.{Node}

abbrev pub node_of : {S : Type 0} → Held S → Node S
node_of n = record { state = n.member; ends = ends_of n.ends }

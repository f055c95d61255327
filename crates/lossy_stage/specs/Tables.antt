-- The scene that a table holds.
use Rattle.std.specs.Prelude.{List, map, vec_items}
use Rattle.helper_coins.specs.declared.helper.Helper.{Helper}
use Rattle.nodes.specs.declared.node.Node.{Node as Held}
use Rattle.nodes.specs.Arrivals.{Node}
use Rattle.nodes.specs.Viewed.{node_of}
use Rattle.scenes.specs.Scenes.{Scene}
use Rattle.lossy_stage.specs.declared.table.Table.{Table}

unfoldable pub helpers_in : List (Held Helper) → List (Node Helper)
helpers_in hs = map node_of hs

abbrev pub scene : Table → Scene
scene t = record { boss = node_of t.boss; helpers = helpers_in (vec_items t.helpers); net = vec_items t.net }

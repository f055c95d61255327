-- The scene that a table holds.
use Rattle.std.specs.Prelude.{vec_items}
use Rattle.stage.specs.declared.table.Table.{Table}
use Rattle.stage.specs.Scenes.{Scene}

abbrev pub scene : Table → Scene
scene t = record { boss = t.boss; helpers = vec_items t.helpers; parcels = vec_items t.post }

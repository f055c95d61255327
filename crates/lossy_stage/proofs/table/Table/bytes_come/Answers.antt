use Rattle.std.proofs.Common.{vec_items, sym, ◌∙◌}
use Rattle.nodes.specs.HelperSteps.{helper_hears}
use Rattle.nodes.specs.Viewed.{node_of}
use Rattle.scenes.specs.declared.command.Response.TheVariants.{Came}
use Rattle.lossy_stage.proofs.Told.{helper_played}
use Rattle.lossy_stage.proofs.table.Table.bytes_come.Goals as goal

pub returns-then-is_there : goal.returns-then-is_there
returns-then-is_there c =
    let t = c.args.self.now in
    let w = sym c.is_there.ensures.value ∙ c.if-is_there.true in
    helper_played (node_of t.boss) (vec_items t.helpers) (vec_items t.net) (vec_items c.receive.new.out) c.args.to.number c.index_mut.result.now c.receive.new.self c.index_mut.ensures.value w
    Came (λ n sent. helper_hears n sent c.args.peer c.args.bytes.now) c.receive.result c.map.result c.receive.ensures c.map.ensures.cases _ _ w

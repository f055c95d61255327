use Rattle.std.proofs.Common.{vec_items, sym, ◌∙◌}
use Rattle.nodes.specs.HelperSteps.{rest_node}
use Rattle.nodes.specs.Viewed.{node_of}
use Rattle.scenes.specs.declared.command.Response.TheVariants.{Answered}
use Rattle.lossy_stage.proofs.Told.{helper_played}
use Rattle.lossy_stage.proofs.table.Table.rest.Goals as goal

pub returns : goal.returns
returns c =
    let t = c.args.self.now in
    let w = sym c.is_there.ensures.value ∙ c.if-not-is_there.false in
    helper_played (node_of t.boss) (vec_items t.helpers) (vec_items t.net) (vec_items c.rest.new.out) c.args.by.number c.index_mut.result.now c.rest.new.self c.index_mut.ensures.value w
    Answered (λ n sent. rest_node n sent c.args.letter) c.rest.result c.map.result c.rest.ensures c.map.ensures.cases _ _ w

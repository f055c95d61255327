use Rattle.std.proofs.Common.{◌&&◌, vec_items, sym, ◌∙◌}
use Rattle.nodes.specs.HelperSteps.{share_node}
use Rattle.nodes.specs.Viewed.{node_of}
use Rattle.scenes.specs.declared.command.Response.TheVariants.{Answered}
use Rattle.scenes.specs.Plays.{is_there}
use Rattle.lossy_stage.specs.Tables.{scene}
use Rattle.lossy_stage.proofs.Told.{helper_played}
use Rattle.lossy_stage.proofs.table.Table.share.Goals as goal

pub returns : goal.returns
returns c =
    let t = c.args.self.now in
    let w = sym c.is_there.ensures.value ∙ c.if-not-is_there.false in
    helper_played (node_of t.boss) (vec_items t.helpers) (vec_items t.net) (vec_items c.share.new.out) c.args.by.number c.index_mut.result.now c.share.new.self c.index_mut.ensures.value w
    Answered (λ n sent. share_node n sent c.args.letter c.args.to c.args.work) c.share.result c.map.result c.share.ensures c.map.ensures.cases (is_there (scene t) c.args.by && is_there (scene t) c.args.to) _ (let u = sym c.is_there-else-not-is_there.ensures.value ∙ c.if-not-is_there-2.false in rw (w, u))

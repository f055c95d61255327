use Rattle.runs.specs.System.{crew}
use Rattle.stage.proofs.Looks.{crew_more}
use Rattle.stage.proofs.table.Table.new.Goals as goal

pub loop-i-init : goal.loop-i-init
unfolding crew
loop-i-init c = c.new-helpers.ensures.items

pub loop-i-preserved : goal.loop-i-preserved
loop-i-preserved c = let e = crew_more c.loop-i.i in let p = c.in_ok-push.ensures.items in cc

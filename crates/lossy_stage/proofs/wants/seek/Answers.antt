use Rattle.std.proofs.Common.{rules, tests}
use Rattle.std.proofs.lemmas.Iterator.{YieldsList-from_slice}
use Rattle.std.proofs.lemmas.Iterator.Consumers.{YieldsList-at, YieldsList-from_enumerate, YieldsList-from_filter, nth_from_yields_List}
use Rattle.lossy_stage.proofs.Packets.{on, found}
use Rattle.lossy_stage.proofs.wants.seek.Goals as goal

pub returns : goal.returns
returns c =
    let s = c.args.pick.sender in
    let r = c.args.pick.receiver in
    let ps = c.args.packets.now in
    let all = YieldsList-at c.filter.ensures.source (YieldsList-from_enumerate (YieldsList-at c.enumerate.ensures.source (YieldsList-from_slice ps cc)) cc) in
    let h = found s r ps c.args.pick.before c.nth.result
    (nth_from_yields_List c.nth.result c.nth.new.self c.args.pick.before c.nth.ensures.ran (YieldsList-from_filter _ (on s r) all c.filter.ensures.closure (λ x b q k. search (rules, tests)))) in
    search (rules, tests, h, c.map.ensures.cases)

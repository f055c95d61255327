use Rattle.std.proofs.Common.{IfOk, subst}
use Rattle.boss_coins.specs.Bosses.{TookIn}
use Rattle.nodes.specs.Arrivals.{HasPlace}
use Rattle.nodes.proofs.Places.{boss_fits}
use Rattle.nodes.proofs.boss.BossMember.arrive.Goals as goal

pub returns-clause-fits : goal.returns-clause-fits
returns-clause-fits c =
    let mail = c.args.mail in
    subst (λ (t : TookIn). IfOk t.taking (HasPlace mail.sender c.args.room)) c.arrive.ensures (boss_fits c.args.self.now mail.sender mail.letter mail.kind c.args.room)

use Rattle.std.proofs.Common.{◌≡◌, drop, vec_items, ap, ◌∙◌, arith, length-drop}
use Rattle.std.proofs.lemmas.List.{take_at}
use Rattle.lines.specs.Fits.{all_fit}
use Rattle.lines.proofs.Fitting.{fit_drop}
use Rattle.lines.proofs.end.LineEnd.release.Goals as goal
use Rattle.lines.proofs.end.LineEnd.release.Goals.{After-truncate}

-- what waits is turned round, and then its end is cut off
cut : (c : After-truncate) → vec_items c.truncate.new.self ≡ drop c.saturating_sub-count.result (vec_items c.args.self.now.waiting)
cut c =
    let t = c.truncate.ensures.items in
    let r = c.rotate_left.ensures.items in
    grind (arith, take_at, length-drop)

pub invariant_of-self-clause-fit : goal.invariant_of-self-clause-fit
invariant_of-self-clause-fit c = ap all_fit (cut c.before) ∙ fit_drop c.saturating_sub-count.result (vec_items c.args.self.now.waiting) c.args.self.now.fit

use Rattle.std.proofs.Common.{arith, rules, ◌≡◌, MatchOption, Some, ◌==◌}
use Rattle.std.specs.List.{position}
use Rattle.std.proofs.lemmas.Grind.{common_steps}
use Rattle.helper_coins.proofs.helper.Helper.slot_for.Goals as goal

pub returns : goal.returns
returns c =
    let first : MatchOption c.find.result (c.or_else.result ≡ position (λ n. n == 0) c.args.self.now.letters) (λ i. c.or_else.result ≡ Some i) = search rules in
    grind (arith, common_steps)

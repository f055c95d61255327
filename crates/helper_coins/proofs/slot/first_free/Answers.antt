use Rattle.std.proofs.Common.{rules, ◌∙◌, ◌==◌}
use Rattle.std.proofs.lemmas.Iterator.{YieldsList-from_slice}
use Rattle.std.proofs.lemmas.Iterator.Search.{position_from_yields_List}
use borrow.Author.Tests.{tests}
use Rattle.helper_coins.specs.Slots.{number_in}
use Rattle.helper_coins.proofs.Places.{position_map}
use Rattle.helper_coins.proofs.slot.first_free.Goals as goal

pub returns : goal.returns
returns c =
    position_from_yields_List (λ s. number_in s == 0) _ _ _ c.position.ensures.ran (YieldsList-from_slice c.args.slots.now cc) (λ x b q k. search (rules, tests))
    ∙ position_map (λ n. n == 0) number_in c.args.slots.now

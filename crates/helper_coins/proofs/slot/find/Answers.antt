use Rattle.std.proofs.Common.{rules, ◌≡◌, ◌∙◌, ◌==◌, false}
use Rattle.std.proofs.lemmas.Iterator.{YieldsList-from_slice}
use Rattle.std.proofs.lemmas.Iterator.Search.{position_from_yields_List}
use borrow.Author.Tests.{tests}
use Rattle.helper_coins.specs.Slots.{number_in}
use Rattle.helper_coins.proofs.Places.{position_map}
use Rattle.helper_coins.proofs.slot.find.Goals as goal

pub returns-else-letter-eq0 : goal.returns-else-letter-eq0
returns-else-letter-eq0 c =
    let some : (c.args.letter.number == 0) ≡ false = search rules in
    rw some
    (position_from_yields_List (λ s. number_in s == c.args.letter.number) _ _ _ c.position.ensures.ran (YieldsList-from_slice c.args.slots.now cc) (λ x b q k. search (rules, tests))
    ∙ position_map (λ n. n == c.args.letter.number) number_in c.args.slots.now)

use Rattle.std.proofs.Common.{◌≡◌, ℕ, List, vec_items, ◌∙◌, subst}
use Rattle.std.specs.List.Sorted.{IsPermutation}
use Rattle.std.proofs.lemmas.List.Sorted.{IsNonDecreasingBy-from_sort}
use Rattle.rehearsal.proofs.show.open_letters.Goals as goal

pub returns : goal.returns
returns c =
    let copied : vec_items c.in_ok-numbers.numbers ≡ c.letters.result.now = c.in_ok-numbers.ensures.items in
    let read : c.letters.result.now ≡ c.args.boss.now.letters = c.letters.ensures in
    record {
      same = subst (λ (xs : List ℕ). IsPermutation xs (vec_items c.sort_unstable.new.self)) (copied ∙ read) c.sort_unstable.ensures.permutation;
      rising = IsNonDecreasingBy-from_sort (λ x. x) _ c.sort_unstable.ensures.sorted;
    }

use Rattle.std.proofs.Common.{refl}
use Rattle.std.proofs.lemmas.List.Elements.{All-replicate}
use Rattle.helper_coins.specs.Slots.{Tidy}
use Rattle.helper_coins.proofs.helper.Helper.new.Goals as goal

pub invariant_of-result : goal.invariant_of-result
invariant_of-result c =
    let tidy : Tidy c.free.result = rw c.free.ensures (λ e. refl) in
    All-replicate Tidy 64 c.free.result tidy

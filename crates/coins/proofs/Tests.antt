-- By the two ways of a test.
use Rattle.std.proofs.Common.{◌≡◌, Bool, true, false, cond, refl}

pub by_test : {X : Type 0} (P : X → Type 0) (b : Bool) (x y : X) → (b ≡ true → P x) → (b ≡ false → P y) → P (cond b x y)
by_test P true x y f g = f refl
by_test P false x y f g = g refl

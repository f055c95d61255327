-- One write after another.
use Rattle.std.proofs.Common.{◌≡◌, List, ◌++◌, Result, Ok, Err, OnOk, ap, ◌∙◌, append_assoc}
use Rattle.text.specs.Growth.{Added}

pub then : {X : Type 0} {w x y a b : List X} → Added w x a → Added x y b → Added w y (a ++ b)
then {w = w} {a = a} {b = b} p q = record { is = q.is ∙ (ap (λ s. s ++ b) p.is ∙ append_assoc w a b) }

-- the last of them may have failed
pub then_ok : {X A E : Type 0} {w x a : List X} (r : Result A E) (y b : List X) → Added w x a → OnOk r (Added x y b) → OnOk r (Added w y (a ++ b))
then_ok (Ok v) y b p q = then p q
then_ok (Err e) y b p q = tt

-- what was written, by another name
pub written : {X A E : Type 0} (r : Result A E) (was now a b : List X) → a ≡ b → OnOk r (now ≡ was ++ a) → OnOk r (Added was now b)
written (Ok v) was now a b e h = record { is = h ∙ ap (λ s. was ++ s) e }
written (Err e) was now a b q h = tt

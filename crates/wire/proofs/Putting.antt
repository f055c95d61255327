-- One part put behind another.
use Rattle.std.proofs.Common.{◌≡◌, ℕ, List, ◌∷◌, ◌++◌, ap, ◌∙◌}
use Rattle.std.specs.Int.{bytes_high_first}
use Rattle.std.proofs.lemmas.List.{append_assoc}
use Rattle.wire.specs.declared.message.Body.{Body}
use Rattle.wire.specs.Numbers.{number_bytes}
use Rattle.wire.specs.Messages.{body_number}
use Rattle.wire.specs.Bytes.{rest}
use Rattle.wire.proofs.Numbers.{high_first_bytes}

-- these bytes behind those that were there
pub record Grown (was now more : List ℕ) : Type 0 where
  pub is : now ≡ was ++ more

-- the bytes of a number
pub number : (w n : ℕ) (was : List ℕ) {bytes now : List ℕ} → bytes ≡ bytes_high_first w n → now ≡ was ++ bytes → Grown was now (number_bytes w n)
number w n was p q = record { is = q ∙ ap (λ xs. was ++ xs) (p ∙ high_first_bytes w n) }

-- one part after another
pub then : {f g h a b : List ℕ} → Grown f g a → Grown g h b → Grown f h (a ++ b)
then {f} {a = a} {b = b} p q = record { is = q.is ∙ (ap (λ xs. xs ++ b) p.is ∙ append_assoc f a b) }

-- the bytes of a body, from the kind on
pub body_put : {f g a : List ℕ} (b : Body) (w : List ℕ) → Grown f g a → a ≡ body_number b ∷ rest b w → g ≡ f ++ (body_number b ∷ rest b w)
body_put {f} b w p e = p.is ∙ ap (λ xs. f ++ xs) e

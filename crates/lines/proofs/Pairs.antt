-- Functions of pairs, changed at one pair.
use Rattle.std.proofs.Common.{◌≡◌, ℕ, inl, inr}
use Rattle.std.proofs.lemmas.Bool.Decides.{eqb_tells}
use Rattle.lines.specs.Perfect.{at_pair}

-- two functions, changed at the same pair: Q holds at each pair if it holds of what they were, and at that pair of what they become
pub by_pairs : {A B : Type 0} (Q : A → B → Type 0) (i j s r : ℕ) (g : A → A) (f : ℕ → ℕ → A) (h : B → B) (k : ℕ → ℕ → B) → (s ≡ i → r ≡ j → Q (g (f s r)) (h (k s r))) → Q (f s r) (k s r) → Q (at_pair i j g f s r) (at_pair i j h k s r)
by_pairs Q i j s r g f h k p q =
    elim (eqb_tells s i) [
      | inl x ↦ elim (eqb_tells r j) [ inl y ↦ rw (x.0, y.0) (p x.1 y.1) | inr y ↦ rw (x.0, y.0) q ]
      | inr x ↦ rw x.0 q
    ]

pub by_pair : {A : Type 0} (Q : A → Type 0) (i j s r : ℕ) (g : A → A) (f : ℕ → ℕ → A) → (s ≡ i → r ≡ j → Q (g (f s r))) → Q (f s r) → Q (at_pair i j g f s r)
by_pair Q i j s r g f p q = by_pairs (λ a _. Q a) i j s r g f g f p q

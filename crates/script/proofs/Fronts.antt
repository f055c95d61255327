-- The first byte that passes a test, or the end; and the first word.
use Rattle.std.proofs.Common.{◌≡◌, ℕ, ◌-◌, ◌<◌, Bool, true, false, not, List, length, take, drop, Some, None, Option, ap, ◌∙◌, arith}
use Rattle.std.specs.List.{position, position_or_len}
use Rattle.std.specs.Option.{unwrap_or}
use Rattle.std.proofs.lemmas.List.{take_all, length-drop}
use Rattle.std.proofs.lemmas.List.Sums.{prefix_len-le-length}
use Rattle.std.proofs.lemmas.Bool.Decides.{nat_tests}
use Rattle.script.specs.Words.{is_blank, is_ink, start_of, has_word, word_of, rest_of}

pub first_or_end : (p : ℕ → Bool) (xs : List ℕ) (r : Option ℕ) → r ≡ position p xs → unwrap_or r (length xs) ≡ position_or_len p xs
first_or_end p xs r e = let le = prefix_len-le-length (λ x. not (p x)) xs in grind (arith, nat_tests)

pub no_word : (text : List ℕ) (r : Option ℕ) → r ≡ position is_ink text → r ≡ None → has_word text ≡ false
unfolding has_word
no_word text r e n = let long = length-drop (position_or_len is_ink text) text in grind (arith, nat_tests)

module _ (text : List ℕ) (r : Option ℕ) (start : ℕ) (found : r ≡ position is_ink text) (some : r ≡ Some start) where
  starts : (start ≡ position_or_len is_ink text) × (start < length text)
  starts = grind (arith, nat_tests)

  pub a_word : has_word text ≡ true
  unfolding has_word
  a_word = let long = length-drop (position_or_len is_ink text) text in grind (arith, nat_tests, starts)

  pub begins : take (length text - start) (drop start text) ≡ start_of text
  begins =
      let long = length-drop start text in
      take_all (length text - start) (drop start text) (omega arith) ∙ ap (λ n. drop n text) starts.0

-- the first word and what follows it, from the cut that finds them
pub words_from : (text start word rest : List ℕ) (n : ℕ) → start ≡ start_of text → n ≡ position_or_len is_blank start → word ≡ take n start → rest ≡ drop n start → (word ≡ word_of text) × (rest ≡ rest_of text)
unfolding word_of rest_of
words_from text start word rest n p q r s = (cc, cc)

-- Digits from some place on, one digit further.
use Rattle.std.proofs.Common.{◌≡◌, ℕ, ◌+◌, ◌-◌, ◌*◌, ◌^◌, ◌<◌, ◌≤◌, true, false, ◌⊎◌, List, [], ◌∷◌, length, get_or, drop, Some, None, ◌∙◌, arith}
use Rattle.std.proofs.lemmas.List.{at_drop_more, at_drop_all}
use Rattle.std.proofs.lemmas.Bool.Decides.{nat_tests}
use Rattle.text.specs.Decimal.{is_digit, all_digits, value, value_after, is_number, number_of}

pub value_more : (n : ℕ) (xs : List ℕ) (i : ℕ) → i < length xs → value_after n (drop i xs) ≡ value_after (n * 10 + (get_or xs i 0 - 48)) (drop (i + 1) xs)
unfolding value_after
value_more n xs i h = at_drop_more (λ ys. value_after n ys) xs i 0 h

pub value_all : (n : ℕ) (xs : List ℕ) (i : ℕ) → length xs ≤ i → value_after n (drop i xs) ≡ n
unfolding value_after
value_all n xs i h = at_drop_all (λ ys. value_after n ys) xs i h

pub value_ge : (n : ℕ) (xs : List ℕ) → n ≤ value_after n xs
unfolding value_after
value_ge n [] = omega arith
value_ge n (x ∷ xs) = omega (arith, value_ge (n * 10 + (x - 48)) xs)

pub digits_more : (xs : List ℕ) (i : ℕ) → i < length xs → is_digit (get_or xs i 0) ≡ true → all_digits (drop i xs) ≡ all_digits (drop (i + 1) xs)
unfolding all_digits
digits_more xs i h e = at_drop_more (λ ys. all_digits ys) xs i 0 h ∙ rw e

pub digits_no : (xs : List ℕ) (i : ℕ) → i < length xs → is_digit (get_or xs i 0) ≡ false → all_digits (drop i xs) ≡ false
unfolding all_digits
digits_no xs i h e = at_drop_more (λ ys. all_digits ys) xs i 0 h ∙ rw e

pub digits_all : (xs : List ℕ) (i : ℕ) → length xs ≤ i → all_digits (drop i xs) ≡ true
unfolding all_digits
digits_all xs i h = at_drop_all (λ ys. all_digits ys) xs i h

-- what makes a number of digits, and what none
pub number_is : (xs : List ℕ) (n : ℕ) → 0 < length xs → length xs ≤ 20 → all_digits xs ≡ true → value xs ≡ n → n < 2 ^ 64 → number_of xs ≡ Some n
unfolding is_number
number_is xs n some few digits e small = grind (arith, nat_tests)

pub no_digits : (xs : List ℕ) → all_digits xs ≡ false → number_of xs ≡ None
unfolding is_number
no_digits xs e = grind (arith, nat_tests)

pub too_big : (xs : List ℕ) → 2 ^ 64 ≤ value xs → number_of xs ≡ None
unfolding is_number
too_big xs h = grind (arith, nat_tests)

pub too_long : (xs : List ℕ) → (length xs ≡ 0) ⊎ (20 < length xs) → number_of xs ≡ None
unfolding is_number
too_long xs h = grind (arith, nat_tests)

-- what reading a number takes
pub ruleset number_steps = (value_more, value_all, value_ge, digits_more, digits_no, digits_all, number_is, no_digits, too_big, too_long)

-- Decimal numbers without a sign.
use Rattle.std.specs.Prelude.{ℕ, ◌+◌, ◌-◌, ◌*◌, ◌^◌, Bool, true, cond, ◌&&◌, List, [], ◌∷◌, length, Some, None, Option, nat_le, nat_lt}

-- a digit: 0 to 9, which are 48 to 57
abbrev pub is_digit : ℕ → Bool
is_digit b = nat_le 48 b && nat_le b 57

unfoldable pub all_digits : List ℕ → Bool
all_digits [] = true
all_digits (b ∷ bs) = is_digit b && all_digits bs

-- what the digits write behind a number, and what they write alone
unfoldable pub value_after : ℕ → List ℕ → ℕ
value_after n [] = n
value_after n (b ∷ bs) = value_after (n * 10 + (b - 48)) bs

abbrev pub value : List ℕ → ℕ
value text = value_after 0 text

-- a text that writes a number: 1 to 20 digits, zeros in front too, and what they write is below 2^64
unfoldable pub is_number : List ℕ → Bool
is_number text = nat_le 1 (length text) && (nat_le (length text) 20 && (all_digits text && nat_lt (value text) (2 ^ 64)))

abbrev pub number_of : List ℕ → Option ℕ
number_of text = cond (is_number text) (Some (value text)) None

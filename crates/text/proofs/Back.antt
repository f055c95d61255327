-- What is written is read back.
use Rattle.std.proofs.Common.{◌≡◌, ℕ, ◌*◌, ◌/◌, ◌%◌, ◌<◌, true, List, [], ◌∷◌, length, decimal, refl, ap, arith, rules}
use Rattle.std.proofs.lemmas.Bool.Decides.{nat_tests}
use Rattle.std.proofs.lemmas.Str.Parse.{IsNumeralModel, numerals_by_fold}
use Rattle.std.proofs.lemmas.Fmt.{decimal_nonempty, length-decimal-le, digits_decimal, digits_value-decimal}
use Rattle.text.specs.Hex.{is_hex, nibble_of, hex_digit, byte_of, all_hex, bytes_of, hex_of}
use Rattle.text.specs.Decimal.{all_digits, value_after}
use Rattle.text.specs.Returns.{AreBytes, HexReturns, NumberReturns}
use Rattle.text.proofs.Pairs.{hex_yes}
use Rattle.text.proofs.Values.{number_is}

digit_is : (n : ℕ) → n < 16 → is_hex (hex_digit n) ≡ true
digit_is n h = grind (arith, nat_tests)

digit_back : (n : ℕ) → n < 16 → nibble_of (hex_digit n) ≡ n
digit_back n h = grind (arith, nat_tests)

byte_back : (b : ℕ) → b < 256 → byte_of (hex_digit (b / 16)) (hex_digit (b % 16)) ≡ b
byte_back b h =
    let high : b / 16 < 16 = omega arith in
    let low : b % 16 < 16 = omega arith in
    omega (arith, digit_back (b / 16) high, digit_back (b % 16) low)

bytes_back : (bytes : List ℕ) → AreBytes bytes → bytes_of (hex_of bytes) ≡ bytes
unfolding bytes_of
bytes_back [] h = refl
bytes_back (b ∷ bs) h = rw (byte_back b h.0) (ap (λ ys. b ∷ ys) (bytes_back bs h.1))

all_hex_of : (bytes : List ℕ) → AreBytes bytes → all_hex (hex_of bytes) ≡ true
unfolding all_hex
all_hex_of [] h = refl
all_hex_of (b ∷ bs) h =
    let high : b / 16 < 16 = omega (arith, h.0) in
    let low : b % 16 < 16 = omega arith in
    rw (digit_is (b / 16) high, digit_is (b % 16) low) (all_hex_of bs h.1)

even : (bytes : List ℕ) → length (hex_of bytes) ≡ 2 * length bytes
even [] = refl
even (b ∷ bs) = omega (arith, even bs)

pub hex_back : HexReturns
hex_back bytes h = (hex_yes (hex_of bytes) (omega (arith, even bytes)) (all_hex_of bytes h), bytes_back bytes h)

own : IsNumeralModel (λ ds. all_digits ds ≡ true) (λ ds. value_after 0 ds)
unfolding all_digits value_after
own = numerals_by_fold _ (search rules) value_after (search rules)

pub number_back : NumberReturns
number_back n h =
    number_is (decimal n) n (decimal_nonempty n h) (length-decimal-le 20 n (omega arith) (omega arith) h) (digits_decimal own n h) (digits_value-decimal own n h) h

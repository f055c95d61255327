-- What `write!` puts of a number and of a byte.
use Rattle.std.proofs.Common.{◌≡◌, ℕ, zero, suc, ◌-◌, ◌^◌, ◌<◌, Bool, true, false, eqb, List, [], ◌∷◌, ◌++◌, length, replicate, get_or, take, ◌/◌, ◌%◌, ◌+◌, ◌∙◌, sym, decimal, refl, ap, arith}
use Rattle.std.proofs.lemmas.Bool.{eqb-true}
use Rattle.std.proofs.lemmas.Bool.Decides.{nat_tests}
use Rattle.std.proofs.lemmas.List.{append-nil, take_more, flat_map_more}
use Rattle.std.proofs.lemmas.Fmt.{hex_byte}
use Rattle.std.specs.Fmt.{format_spec, styled_decimal, padded_integral, char_count, fill_text, digit_glyph, digits}
use Rattle.text.specs.Hex.{hex_digit, hex_pair, hex_of}

spaces : (width : ℕ) (n : ℕ) → fill_text (format_spec 32 3 0 width (2 ^ 64 - 1)) n ≡ replicate n 32
unfolding lib.Utf8.encode
spaces width zero = refl
spaces width (suc n) = ap (λ xs. 32 ∷ xs) (spaces width n)

padded_right : (width : ℕ) (numeral : List ℕ) → padded_integral (format_spec 32 3 0 width (2 ^ 64 - 1)) false [] numeral ≡ replicate (width - length numeral) 32 ++ numeral
unfolding padded_integral char_count
padded_right width numeral =
    let padding = width - length numeral in
    let none : padding - padding ≡ 0 = omega arith in
    let left : width - length numeral - 0 - 0 ≡ padding = omega arith in
    rw (left, none, spaces width padding) (simp append-nil)

-- a number on the right of so many columns
pub right_aligned : (width n : ℕ) → styled_decimal (format_spec 32 3 0 width (2 ^ 64 - 1)) n ≡ replicate (width - length (decimal n)) 32 ++ decimal n
right_aligned width n = by (eqb width 0) refl
  where
    by : (t : Bool) → eqb width 0 ≡ t → styled_decimal (format_spec 32 3 0 width (2 ^ 64 - 1)) n ≡ replicate (width - length (decimal n)) 32 ++ decimal n
    by true e = let none : width - length (decimal n) ≡ 0 = omega (arith, eqb-true width 0 e) in rw (e, none) refl
    by false e = rw e (padded_right width (decimal n))

glyph_is : (n : ℕ) → n < 16 → digit_glyph false n ≡ hex_digit n
glyph_is n h = grind (arith, nat_tests)

-- a byte in hexadecimal
pub byte_is : (n : ℕ) → n < 256 → padded_integral (format_spec 32 0 4 2 (2 ^ 64 - 1)) false [] (digits 16 false n) ≡ hex_pair n
byte_is n h =
    let high = glyph_is (n / 16) (omega arith) in
    let low = glyph_is (n % 16) (omega arith) in
    hex_byte false n h ∙ ap (λ d. d ∷ digit_glyph false (n % 16) ∷ []) high ∙ ap (λ d. hex_digit (n / 16) ∷ d ∷ []) low

pub hex_more : (bytes : List ℕ) (i : ℕ) → i < length bytes → hex_of (take i bytes) ++ hex_pair (get_or bytes i 0) ≡ hex_of (take (i + 1) bytes)
hex_more bytes i h = flat_map_more hex_pair [] (take i bytes) (get_or bytes i 0) ∙ ap hex_of (sym (take_more bytes i 0 h))

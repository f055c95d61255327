-- What is written is read back.
use Rattle.std.specs.Prelude.{◌≡◌, ℕ, ◌^◌, ◌<◌, true, List, [], ◌∷◌, Some, decimal}
use Rattle.text.specs.Hex.{is_hex_text, bytes_of, hex_of}
use Rattle.text.specs.Decimal.{number_of}

abbrev pub AreBytes : List ℕ → Type 0
AreBytes [] = Unit {0}
AreBytes (b ∷ bs) = (b < 256) × AreBytes bs

abbrev pub HexReturns : Type 0
HexReturns = (bytes : List ℕ) → AreBytes bytes → (is_hex_text (hex_of bytes) ≡ true) × (bytes_of (hex_of bytes) ≡ bytes)

abbrev pub NumberReturns : Type 0
NumberReturns = (n : ℕ) → n < 2 ^ 64 → number_of (decimal n) ≡ Some n

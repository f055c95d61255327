-- Hexadecimal: two digits to a byte, the high one first.
use Rattle.std.specs.Prelude.{◌≡◌, ℕ, ◌+◌, ◌-◌, ◌*◌, ◌/◌, ◌%◌, Bool, true, false, cond, ◌&&◌, ◌||◌, List, [], ◌∷◌, length, Some, None, Option, ◌==◌, nat_le, nat_lt}
use Rattle.std.specs.List.{flat_map}
use Rattle.text.specs.declared.hex.HexFault.{HexFault}
use Rattle.text.specs.declared.hex.HexFault.TheVariants.{NotHex, NoMemory}

-- a digit: 0 to 9, which are 48 to 57, or a to f, which are 97 to 102
abbrev pub is_hex : ℕ → Bool
is_hex b = (nat_le 48 b && nat_le b 57) || (nat_le 97 b && nat_le b 102)

-- the number that a digit stands for
abbrev pub nibble_of : ℕ → ℕ
nibble_of b = cond (nat_lt b 97) (b - 48) (b - 87)

abbrev pub hex_value : ℕ → Option ℕ
hex_value b = cond (is_hex b) (Some (nibble_of b)) None

-- the digit that stands for a number below 16
abbrev pub hex_digit : ℕ → ℕ
hex_digit n = cond (nat_lt n 10) (48 + n) (87 + n)

unfoldable pub all_hex : List ℕ → Bool
all_hex [] = true
all_hex (b ∷ bs) = is_hex b && all_hex bs

-- the byte that two digits stand for, and the bytes that pairs of digits stand for
abbrev pub byte_of : ℕ → ℕ → ℕ
byte_of high low = 16 * nibble_of high + nibble_of low

abbrev pub pair_of : ℕ → ℕ → Option ℕ
pair_of high low = cond (is_hex high && is_hex low) (Some (byte_of high low)) None

unfoldable pub bytes_of : List ℕ → List ℕ
bytes_of [] = []
bytes_of (high ∷ []) = []
bytes_of (high ∷ low ∷ rest) = byte_of high low ∷ bytes_of rest

-- a text that is the hexadecimal of bytes: an even number of digits
unfoldable pub is_hex_text : List ℕ → Bool
is_hex_text text = length text % 2 == 0 && all_hex text

-- why a text gives no bytes; memory is asked for only where the number of digits is even
abbrev pub Fails : List ℕ → HexFault → Type 0
Fails text NotHex = is_hex_text text ≡ false
Fails text NoMemory = length text % 2 ≡ 0

-- the two digits of a byte, and those of all bytes
abbrev pub hex_pair : ℕ → List ℕ
hex_pair b = hex_digit (b / 16) ∷ hex_digit (b % 16) ∷ []

abbrev pub hex_of : List ℕ → List ℕ
hex_of bytes = flat_map hex_pair bytes

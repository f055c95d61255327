-- Numbers as bytes, the high byte first.
use Rattle.std.specs.Prelude.{ℕ, zero, suc, ◌+◌, ◌*◌, ◌/◌, ◌%◌, ◌^◌, List, [], ◌∷◌, slice_index}

-- a number in so many bytes
unfoldable pub number_bytes : ℕ → ℕ → List ℕ
number_bytes zero n = []
number_bytes (suc w) n = (n / 256 ^ w % 256) ∷ number_bytes w n

-- the number that so many bytes are, from a place on
unfoldable pub number_at : ℕ → List ℕ → ℕ → ℕ
number_at zero bs i = 0
number_at (suc w) bs i = slice_index bs i * 256 ^ w + number_at w bs (i + 1)

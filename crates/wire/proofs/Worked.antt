-- Bytes of messages, worked out.
use Rattle.std.proofs.Common.{◌≡◌, ℕ, List, [], ◌∷◌, Some, None, refl}
use Rattle.coins.specs.declared.mail.Kind.TheVariants.{Work, NoMore}
use Rattle.wire.specs.declared.message.Body.TheVariants.{Numbered}
use Rattle.wire.specs.Numbers.{number_bytes, number_at}
use Rattle.wire.specs.Messages.{Msg, taken_msg}
use Rattle.wire.specs.Bytes.{encode, decode}
use Rattle.wire.proofs.Lengths.{said}

-- helper 3 has taken all up to 258 from the boss
taken_bytes : encode (taken_msg 3 65535 258) ≡ 0 ∷ 0 ∷ 0 ∷ 0 ∷ 0 ∷ 3 ∷ 255 ∷ 255 ∷ 0 ∷ 0 ∷ 0 ∷ 0 ∷ 0 ∷ 0 ∷ 1 ∷ 2 ∷ 5 ∷ []
unfolding encode number_bytes
taken_bytes = refl

-- two bytes of work of letter 7 from the boss to helper 1, with 2^20 coins, under the number 9
abbrev work_bytes : List ℕ
work_bytes = 0 ∷ 0 ∷ 0 ∷ 7 ∷ 255 ∷ 255 ∷ 0 ∷ 1 ∷ 0 ∷ 0 ∷ 0 ∷ 0 ∷ 0 ∷ 0 ∷ 0 ∷ 9 ∷ 1 ∷ 0 ∷ 0 ∷ 0 ∷ 0 ∷ 0 ∷ 16 ∷ 0 ∷ 0 ∷ 0 ∷ 2 ∷ 104 ∷ 105 ∷ []

abbrev work_msg : Msg
work_msg = said 7 65535 1 9 (Numbered (Work 1048576)) (104 ∷ 105 ∷ [])

work_bytes_encoded : encode work_msg ≡ work_bytes
unfolding encode number_bytes
work_bytes_encoded = refl

work_read : decode work_bytes ≡ Some work_msg
unfolding decode number_at
work_read = refl

-- kind 3 with no coins: from the boss it says that there are none, from helper 1 it is refused
abbrev no_coins : ℕ → ℕ → ℕ → ℕ → List ℕ
no_coins a b c d = 0 ∷ 0 ∷ 0 ∷ 7 ∷ a ∷ b ∷ c ∷ d ∷ 0 ∷ 0 ∷ 0 ∷ 0 ∷ 0 ∷ 0 ∷ 0 ∷ 2 ∷ 3 ∷ 0 ∷ 0 ∷ 0 ∷ 0 ∷ 0 ∷ 0 ∷ 0 ∷ 0 ∷ []

none_read : decode (no_coins 255 255 0 1) ≡ Some (said 7 65535 1 2 (Numbered NoMore) [])
unfolding decode number_at
none_read = refl

none_refused : decode (no_coins 0 1 255 255) ≡ None
unfolding decode number_at
none_refused = refl

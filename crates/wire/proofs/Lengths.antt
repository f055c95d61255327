-- How long what is written is, whatever stands behind it.
use Rattle.std.proofs.Common.{◌≡◌, ℕ, ◌≤◌, List, [], ◌++◌, length, refl, arith}
use Rattle.coins.specs.declared.mail.Kind.TheVariants.{Work, More, Back, NoMore, Ask}
use Rattle.wire.specs.declared.message.Body.{Body}
use Rattle.wire.specs.declared.message.Body.TheVariants.{Numbered, Taken}
use Rattle.wire.specs.Numbers.{number_bytes, number_at}
use Rattle.wire.specs.Messages.{Msg}
use Rattle.wire.specs.Bytes.{encode, span}
use Rattle.wire.proofs.Numbers.{number_at_back}

-- a message by its parts
abbrev pub said : ℕ → ℕ → ℕ → ℕ → Body → List ℕ → Msg
said l s r n b w = record { letter = l; sender = s; receiver = r; number = n; body = b; work = w }

spans : (l s r n : ℕ) (b : Body) (w ys : List ℕ) → length w ≤ 256 → span (encode (said l s r n b w) ++ ys) ≡ length (encode (said l s r n b w))
unfolding encode number_bytes number_at
spans l s r n (Numbered (Work c)) w ys h =
    let given : number_at 2 (number_bytes 2 (length w) ++ []) 0 ≡ length w = number_at_back 2 (length w) [] (omega arith) in
    omega (arith, given)
spans l s r n (Numbered (More c)) w ys h = refl
spans l s r n (Numbered (Back c)) w ys h = refl
spans l s r n (Numbered NoMore) w ys h = refl
spans l s r n (Numbered Ask) w ys h = refl
spans l s r n Taken w ys h = refl

-- the length that is given is the length that there is
pub span_encode : (m : Msg) (ys : List ℕ) → length m.work ≤ 256 → span (encode m ++ ys) ≡ length (encode m)
span_encode m ys h = spans m.letter m.sender m.receiver m.number m.body m.work ys h

lengths : (l s r n : ℕ) (b : Body) (w : List ℕ) → length w ≤ 256 → (17 ≤ length (encode (said l s r n b w))) × (length (encode (said l s r n b w)) ≤ 283)
unfolding encode number_bytes
lengths l s r n (Numbered (Work c)) w h = (omega arith, omega arith)
lengths l s r n (Numbered (More c)) w h = (omega arith, omega arith)
lengths l s r n (Numbered (Back c)) w h = (omega arith, omega arith)
lengths l s r n (Numbered NoMore) w h = (omega arith, omega arith)
lengths l s r n (Numbered Ask) w h = (omega arith, omega arith)
lengths l s r n Taken w h = (omega arith, omega arith)

-- a message has 17 bytes at least, and 283 at most
pub encode_long : (m : Msg) → length m.work ≤ 256 → 17 ≤ length (encode m)
encode_long m h = (lengths m.letter m.sender m.receiver m.number m.body m.work h).0

pub encode_length : (m : Msg) → length m.work ≤ 256 → length (encode m) ≤ 283
encode_length m h = (lengths m.letter m.sender m.receiver m.number m.body m.work h).1

-- The bytes of a message.
use Rattle.std.specs.Prelude.{ℕ, ◌+◌, Bool, false, cond, ◌&&◌, ◌||◌, List, [], ◌∷◌, ◌++◌, length, drop, Some, None, Option, ◌==◌, nat_le, slice_index}
use Rattle.coins.specs.declared.mail.Kind.{Kind}
use Rattle.coins.specs.declared.mail.Kind.TheVariants.{Work, More, Back, NoMore, Ask}
use Rattle.wire.specs.declared.message.Body.{Body}
use Rattle.wire.specs.declared.message.Body.TheVariants.{Numbered, Taken}
use Rattle.wire.specs.Numbers.{number_bytes, number_at}
use Rattle.wire.specs.Messages.{Msg, body_number}
use Rattle.wire.specs.Rules.{goes, is_paid}

-- what follows the kind
abbrev pub rest : Body → List ℕ → List ℕ
rest (Numbered (Work c)) w = number_bytes 8 c ++ (number_bytes 2 (length w) ++ w)
rest (Numbered (More c)) w = number_bytes 8 c
rest (Numbered (Back c)) w = number_bytes 8 c
rest (Numbered NoMore) w = number_bytes 8 0
rest (Numbered Ask) w = []
rest Taken w = []

-- what is written of a message
unfoldable pub encode : Msg → List ℕ
encode m = number_bytes 4 m.letter ++ (number_bytes 2 m.sender ++ (number_bytes 2 m.receiver ++ (number_bytes 8 m.number ++ (body_number m.body ∷ rest m.body m.work))))

-- how long a message is that begins so, by its kind and, of work, by the length that it gives; 0 where there is no such kind
abbrev pub span : List ℕ → ℕ
span bs =
    cond (slice_index bs 16 == 1) (27 + number_at 2 bs 25)
    (cond (slice_index bs 16 == 2 || slice_index bs 16 == 3) 25
    (cond (slice_index bs 16 == 4 || slice_index bs 16 == 5) 17 0))

-- neither cut short nor too long, and of a known kind
abbrev pub is_whole : List ℕ → Bool
is_whole bs = nat_le 17 (length bs) && length bs == span bs

-- whether just this follows such a kind
abbrev pub ends : ℕ → List ℕ → Bool
ends k rest =
    cond (k == 1) (length rest == 10 + number_at 2 rest 8)
    (cond (k == 2 || k == 3) (length rest == 8)
    (cond (k == 4 || k == 5) (length rest == 0) false))

-- coins that go back: none, which come from the boss, mean that there are none
abbrev pub back_of : ℕ → Kind
back_of c = cond (c == 0) NoMore (Back c)

-- the body that a kind from 1 to 5 and coins stand for
abbrev pub body_of : ℕ → ℕ → Body
body_of k c =
    cond (k == 1) (Numbered (Work c))
    (cond (k == 2) (Numbered (More c))
    (cond (k == 3) (Numbered (back_of c))
    (cond (k == 4) (Numbered Ask) Taken)))

-- the message that whole bytes say
abbrev pub message_at : List ℕ → Msg
message_at bs = record { letter = number_at 4 bs 0; sender = number_at 2 bs 4; receiver = number_at 2 bs 6; number = number_at 8 bs 8; body = body_of (slice_index bs 16) (number_at 8 bs 17); work = drop 27 bs }

-- what the reader tests of a message that it has read
abbrev pub is_fine : Msg → Bool
is_fine m = goes m.sender m.receiver m.body && (is_paid m.body && nat_le (length m.work) 256)

-- what is read of bytes
unfoldable pub decode : List ℕ → Option Msg
decode bs = cond (is_whole bs && is_fine (message_at bs)) (Some (message_at bs)) None

-- What a message says, apart from where its bytes lie.
use Rattle.std.specs.Prelude.{ℕ, List, []}
use Rattle.coins.specs.Mails.{kind_number, coins_in}
use Rattle.coins.specs.Works.{bytes_of}
use Rattle.coins.specs.declared.parcel.Parcel.{Parcel}
use Rattle.wire.specs.declared.message.Body.{Body}
use Rattle.wire.specs.declared.message.Body.TheVariants.{Numbered, Taken}
use Rattle.wire.specs.declared.message.Message.{Message}

pub record Msg : Type 0 where
  pub letter : ℕ
  pub sender : ℕ
  pub receiver : ℕ
  pub number : ℕ
  pub body : Body
  pub work : List ℕ

abbrev pub view : Message → Msg
view m = record { letter = m.letter.number; sender = m.sender.number; receiver = m.receiver.number; number = m.number.number; body = m.body; work = m.work.now }

-- the number that stands for the body in a message
abbrev pub body_number : Body → ℕ
body_number (Numbered k) = kind_number k
body_number Taken = 5

-- the coins that travel with it
abbrev pub body_coins : Body → ℕ
body_coins (Numbered k) = coins_in k
body_coins Taken = 0

-- a parcel under a number
abbrev pub numbered_msg : Parcel → ℕ → Msg
numbered_msg p n = record { letter = p.mail.letter.number; sender = p.mail.sender.number; receiver = p.mail.receiver.number; number = n; body = Numbered p.mail.kind; work = bytes_of p.work }

-- that all up to a number was taken: sender, receiver, number
abbrev pub taken_msg : ℕ → ℕ → ℕ → Msg
taken_msg s r n = record { letter = 0; sender = s; receiver = r; number = n; body = Taken; work = [] }

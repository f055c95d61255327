-- What can be written: numbers that fit the bytes that they have.
use Rattle.std.specs.Prelude.{Bool, true, ◌&&◌, List, [], ◌∷◌, length, ◌==◌, nat_le, nat_lt}
use Rattle.coins.specs.declared.mail.Kind.{Kind}
use Rattle.coins.specs.declared.mail.Kind.TheVariants.{Work as Works, More, Back, NoMore, Ask}
use Rattle.coins.specs.Works.{Work}
use Rattle.coins.specs.declared.parcel.Parcel.{Parcel}
use Rattle.coins.specs.Mails.{coins_in}

-- bytes go with work alone
abbrev pub is_bare : Kind → Work → Bool
is_bare (Works c) w = true
is_bare (More c) w = length w == 0
is_bare (Back c) w = length w == 0
is_bare NoMore w = length w == 0
is_bare Ask w = length w == 0

-- a letter in 4 bytes, sender and receiver in 2, coins in 8, and at most 256 bytes of work
abbrev pub fits : Parcel → Bool
fits p =
    (nat_lt p.mail.letter.number 4294967296 && nat_lt (coins_in p.mail.kind) 18446744073709551616) &&
    ((nat_lt p.mail.sender.number 65536 && nat_lt p.mail.receiver.number 65536) && (is_bare p.mail.kind p.work && nat_le (length p.work) 256))

unfoldable pub all_fit : List Parcel → Bool
all_fit [] = true
all_fit (p ∷ ps) = fits p && all_fit ps

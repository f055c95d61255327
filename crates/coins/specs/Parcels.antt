-- A message with the bytes of its work beside it.
use Rattle.coins.specs.declared.mail.Kind.{Kind}
use Rattle.coins.specs.declared.mail.Kind.TheVariants.{Work as Works, More, Back, NoMore, Ask}
use Rattle.coins.specs.declared.mail.Mail.{Mail}
use Rattle.coins.specs.declared.parcel.Parcel.{Parcel}
use Rattle.coins.specs.Works.{Work, no_work}

-- the bytes that go with a message: those of work, and none with any other
abbrev pub bytes_for : Kind → Work → Work
bytes_for (Works c) work = work
bytes_for (More c) work = no_work
bytes_for (Back c) work = no_work
bytes_for NoMore work = no_work
bytes_for Ask work = no_work

abbrev pub parcel_of : Mail → Work → Parcel
parcel_of m work = record { mail = m; work = bytes_for m.kind work }

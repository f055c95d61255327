-- Messages: the number of each kind, and the coins that travel with it.
use Rattle.std.specs.Prelude.{ℕ, Result, Option}
use Rattle.coins.specs.declared.mail.Kind.{Kind}
use Rattle.coins.specs.declared.mail.Kind.TheVariants.{Work, More, Back, NoMore, Ask}
use Rattle.coins.specs.declared.mail.Mail.{Mail}
use Rattle.coins.specs.declared.mail.Untaken.{Untaken}

-- coins that go back and the answer that there are none have one number: the latter comes from the boss, with no coins
abbrev pub kind_number : Kind → ℕ
kind_number (Work c) = 1
kind_number (More c) = 2
kind_number (Back c) = 3
kind_number NoMore = 3
kind_number Ask = 4

abbrev pub coins_in : Kind → ℕ
coins_in (Work c) = c
coins_in (More c) = c
coins_in (Back c) = c
coins_in NoMore = 0
coins_in Ask = 0

-- what becomes of a message that came: it is taken, and this is sent; or it is not
abbrev pub Taking : Type 0
Taking = Result (Option Mail) Untaken

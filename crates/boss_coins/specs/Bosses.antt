-- Every step of the boss.
use Rattle.std.specs.Prelude.{ℕ, ◌+◌, Bool, cond, ◌||◌, replicate, ◌==◌, nat_le, nat_lt, Some, None, Ok, Err, slice_index, slice_set}
use Rattle.coins.specs.declared.ids.LetterId.{LetterId}
use Rattle.coins.specs.declared.ids.NodeId.{NodeId}
use Rattle.coins.specs.declared.answer.Answer.TheVariants.{Fine, Done, Refused}
use Rattle.coins.specs.declared.answer.Refusal.{Refusal}
use Rattle.coins.specs.declared.answer.Refusal.TheVariants.{Malformed, NoLetter, CoinsOut, CountsUsed, LettersFull, NoPlace}
use Rattle.coins.specs.declared.mail.Kind.{Kind}
use Rattle.coins.specs.declared.mail.Kind.TheVariants.{Work, More, Back, NoMore, Ask}
use Rattle.coins.specs.declared.mail.Mail.{Mail}
use Rattle.coins.specs.declared.mail.Outcome.{Outcome}
use Rattle.coins.specs.declared.mail.Untaken.TheVariants.{Later, Refused as Turned}
use Rattle.boss_coins.specs.declared.boss.Boss.{Boss}
use Rattle.coins.specs.Limits.{grant, limit, boss_number}
use Rattle.coins.specs.Letters.{seek, place}
use Rattle.coins.specs.Mails.{Taking}

-- what a call leaves and answers; what a message leaves, and what becomes of it
pub record Called : Type 0 where
  pub boss : Boss
  pub outcome : Outcome

pub record TookIn : Type 0 where
  pub boss : Boss
  pub taking : Taking

abbrev pub new_boss : Boss
new_boss = record { highest = 0; letters = replicate 64 0; given = replicate 64 0; back = replicate 64 0 }

-- a letter is open when it was given and is not done
abbrev pub is_open : Boss → ℕ → Bool
is_open b letter = nat_lt (place b.letters letter) 64

abbrev pub given_of : Boss → ℕ → ℕ
given_of b letter = cond (is_open b letter) (slice_index b.given (place b.letters letter)) 0

abbrev pub back_of : Boss → ℕ → ℕ
back_of b letter = cond (is_open b letter) (slice_index b.back (place b.letters letter)) 0

abbrev pub send : NodeId → LetterId → Kind → Mail
send to letter kind = record { sender = record { number = boss_number }; receiver = to; letter = letter; kind = kind }

abbrev pub refuse : Boss → Refusal → Called
refuse b why = record { boss = b; outcome = record { answer = Refused why; post = None } }

-- so many coins more are given out of the letter at place i
abbrev pub granted : Boss → ℕ → Boss
granted b i = record { highest = b.highest; letters = b.letters; given = slice_set b.given i (slice_index b.given i + grant); back = b.back }

-- the place i is taken by this letter, with these counts
abbrev pub entered : Boss → ℕ → ℕ → ℕ → ℕ → Boss
entered b highest i letter given =
    record { highest = highest; letters = slice_set b.letters i letter; given = slice_set b.given i given; back = slice_set b.back i 0 }

-- Give: work for a helper; the first opens the letter, whose number is above all before
abbrev pub give_open : Boss → LetterId → NodeId → ℕ → ℕ → Called
give_open b letter to room i =
    cond (nat_lt (slice_index b.given i + grant) limit)
    (cond (room == 0) (refuse b NoPlace)
    (record { boss = granted b i; outcome = record { answer = Fine; post = Some (send to letter (Work grant)) } }))
    (refuse b CountsUsed)

abbrev pub give_at : Boss → LetterId → NodeId → ℕ → ℕ → Called
give_at b letter to room i =
    cond (nat_lt i 64)
    (cond (room == 0) (refuse b NoPlace)
    (record { boss = entered b letter.number i letter.number grant; outcome = record { answer = Fine; post = Some (send to letter (Work grant)) } }))
    (refuse b LettersFull)

abbrev pub give_new : Boss → LetterId → NodeId → ℕ → Called
give_new b letter to room =
    cond (nat_lt b.highest letter.number) (give_at b letter to room (seek b.letters 0)) (refuse b NoLetter)

abbrev pub give_step : Boss → LetterId → NodeId → ℕ → Called
give_step b letter to room =
    cond (nat_lt 255 to.number) (refuse b Malformed)
    (cond (nat_lt (place b.letters letter.number) 64)
    (give_open b letter to room (place b.letters letter.number))
    (give_new b letter to room))

-- Say: done, if all coins given out came back; the place is free for another letter
abbrev pub say_at : Boss → ℕ → Called
say_at b i =
    cond (slice_index b.given i == slice_index b.back i)
    (record { boss = entered b b.highest i 0 0; outcome = record { answer = Done; post = None } })
    (refuse b CoinsOut)

abbrev pub say_step : Boss → LetterId → Called
say_step b letter =
    cond (nat_lt (place b.letters letter.number) 64) (say_at b (place b.letters letter.number)) (refuse b NoLetter)

abbrev pub turned : Boss → Refusal → TookIn
turned b why = record { boss = b; taking = Err (Turned why) }

-- Coins have come back: some, of an open letter, and no more than are out
abbrev pub back_at : Boss → ℕ → ℕ → TookIn
back_at b c i =
    cond (nat_le (slice_index b.back i + c) (slice_index b.given i))
    (record { boss = record { highest = b.highest; letters = b.letters; given = b.given; back = slice_set b.back i (slice_index b.back i + c) }; taking = Ok None })
    (turned b Malformed)

abbrev pub back_step : Boss → LetterId → ℕ → TookIn
back_step b letter c =
    cond (c == 0 || nat_le 64 (place b.letters letter.number)) (turned b Malformed) (back_at b c (place b.letters letter.number))

-- More: a helper asks; it gets as many as work gets, or none where the letter is not open or counts are used up
abbrev pub ask_at : Boss → NodeId → LetterId → ℕ → TookIn
ask_at b sender letter i =
    cond (nat_lt (slice_index b.given i + grant) limit)
    (record { boss = granted b i; taking = Ok (Some (send sender letter (More grant))) })
    (record { boss = b; taking = Ok (Some (send sender letter NoMore)) })

abbrev pub ask_step : Boss → NodeId → LetterId → ℕ → TookIn
ask_step b sender letter room =
    cond (room == 0) (record { boss = b; taking = Err Later })
    (cond (nat_lt (place b.letters letter.number) 64)
    (ask_at b sender letter (place b.letters letter.number))
    (record { boss = b; taking = Ok (Some (send sender letter NoMore)) }))

-- a message has come to the boss; room: the places that there are towards its sender
abbrev pub receive_step : Boss → NodeId → LetterId → Kind → ℕ → TookIn
receive_step b sender letter (Back c) room = back_step b letter c
receive_step b sender letter Ask room = ask_step b sender letter room
receive_step b sender letter (Work c) room = turned b Malformed
receive_step b sender letter (More c) room = turned b Malformed
receive_step b sender letter NoMore room = turned b Malformed

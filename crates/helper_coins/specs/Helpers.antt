-- Every step of a helper.
use Rattle.std.specs.Prelude.{ℕ, ◌+◌, ◌/◌, Bool, cond, not, ◌&&◌, ◌||◌, List, replicate, ◌==◌, nat_lt, Some, None, Ok, Err, Result, Option, slice_index, slice_index_or, slice_set}
use Rattle.std.specs.List.{position_or_len}
use Rattle.coins.specs.declared.ids.LetterId.{LetterId}
use Rattle.coins.specs.declared.ids.NodeId.{NodeId}
use Rattle.coins.specs.declared.answer.Answer.TheVariants.{Fine, Refused}
use Rattle.coins.specs.declared.answer.Refusal.{Refusal}
use Rattle.coins.specs.declared.answer.Refusal.TheVariants.{Malformed, NoLetter, NotWorking, OneCoin, LettersFull, NoPlace}
use Rattle.coins.specs.declared.mail.Kind.{Kind}
use Rattle.coins.specs.declared.mail.Kind.TheVariants.{Work, More, Back, NoMore, Ask}
use Rattle.coins.specs.declared.mail.Mail.{Mail}
use Rattle.coins.specs.declared.mail.Outcome.{Outcome}
use Rattle.coins.specs.declared.mail.Untaken.TheVariants.{Later, Refused as Turned}
use Rattle.helper_coins.specs.declared.holding.Holding.{Holding}
use Rattle.helper_coins.specs.declared.helper.Helper.{Helper}
use Rattle.coins.specs.Limits.{limit, boss_number}
use Rattle.coins.specs.Letters.{seek, place}
use Rattle.coins.specs.Mails.{Taking}
use Rattle.helper_coins.specs.Holdings.{idle, took, kept, waiting, answered, waits}

-- what a call leaves and answers; what a message leaves, and what becomes of it; what a flush leaves and sends
pub record Called : Type 0 where
  pub helper : Helper
  pub outcome : Outcome

pub record TookIn : Type 0 where
  pub helper : Helper
  pub taking : Taking

pub record Flushed : Type 0 where
  pub helper : Helper
  pub post : Option Mail

abbrev pub new_helper : NodeId → Helper
new_helper me = record { me = me; letters = replicate 64 0; holdings = replicate 64 idle }

abbrev pub at : List Holding → ℕ → Holding
at hs i = slice_index_or hs i idle

-- its state of a letter
abbrev pub holding_of : Helper → ℕ → Holding
holding_of h letter = cond (nat_lt (place h.letters letter) 64) (at h.holdings (place h.letters letter)) idle

-- the place that the letter has, or else the first that is free
abbrev pub slot_for : Helper → ℕ → ℕ
slot_for h letter = cond (nat_lt (place h.letters letter) 64) (place h.letters letter) (seek h.letters 0)

abbrev pub write : Helper → ℕ → ℕ → Holding → Helper
write h i letter x = record { me = h.me; letters = slice_set h.letters i letter; holdings = slice_set h.holdings i x }

abbrev pub store : Helper → ℕ → Holding → Helper
store h i x = record { me = h.me; letters = h.letters; holdings = slice_set h.holdings i x }

abbrev pub clear : Helper → ℕ → Helper
clear h i = cond (nat_lt i 64) (write h i 0 idle) h

abbrev pub to_boss : Helper → LetterId → Kind → Mail
to_boss h letter kind = record { sender = h.me; receiver = record { number = boss_number }; letter = letter; kind = kind }

abbrev pub refuse : Helper → Refusal → Called
refuse h why = record { helper = h; outcome = record { answer = Refused why; post = None } }

abbrev pub fine : Helper → Option Mail → Called
fine h post = record { helper = h; outcome = record { answer = Fine; post = post } }

-- Share: work for a helper with the smaller half of the coins; what is for itself is taken at once. With one coin it asks.
abbrev pub ask_at : Helper → LetterId → ℕ → Holding → ℕ → Called
ask_at h letter i x boss =
    cond (x.asked || boss == 0) (refuse h OneCoin)
    (record { helper = store h i (waiting x); outcome = record { answer = Refused OneCoin; post = Some (to_boss h letter Ask) } })

abbrev pub share_at : Helper → LetterId → NodeId → ℕ → ℕ → ℕ → Holding → Called
share_at h letter to peer boss i x =
    cond x.working
    (cond (nat_lt x.coins 2) (ask_at h letter i x boss)
    (cond (to.number == h.me.number) (fine h None)
    (cond (peer == 0) (refuse h NoPlace)
    (fine (store h i (kept x)) (Some (record { sender = h.me; receiver = to; letter = letter; kind = Work (x.coins / 2) }))))))
    (refuse h NotWorking)

abbrev pub share_step : Helper → LetterId → NodeId → ℕ → ℕ → Called
share_step h letter to peer boss =
    cond (nat_lt 255 to.number) (refuse h Malformed)
    (cond (nat_lt (place h.letters letter.number) 64)
    (share_at h letter to peer boss (place h.letters letter.number) (at h.holdings (place h.letters letter.number)))
    (refuse h NoLetter))

-- Rest: it is not at work any more, and all its coins go back
abbrev pub rest_at : Helper → LetterId → ℕ → ℕ → Holding → Called
rest_at h letter boss i x =
    cond x.working
    (cond (boss == 0) (refuse h NoPlace) (fine (write h i 0 idle) (Some (to_boss h letter (Back x.coins)))))
    (refuse h NotWorking)

abbrev pub rest_step : Helper → LetterId → ℕ → Called
rest_step h letter boss =
    cond (nat_lt (place h.letters letter.number) 64)
    (rest_at h letter boss (place h.letters letter.number) (at h.holdings (place h.letters letter.number)))
    (refuse h NoLetter)

-- Flush: the first coins that waited for a place go back, once there is one
abbrev pub seek_waiting : List Holding → ℕ
seek_waiting hs = position_or_len waits hs

abbrev pub vacated : Helper → ℕ → Flushed
vacated h i = record { helper = write h i 0 idle; post = Some (to_boss h (record { number = slice_index h.letters i }) (Back (at h.holdings i).coins)) }

abbrev pub flush_at : Helper → ℕ → ℕ → Flushed
flush_at h boss i = cond (nat_lt i 64 && not (boss == 0)) (vacated h i) (record { helper = h; post = None })

abbrev pub flush_step : Helper → ℕ → Flushed
flush_step h boss = flush_at h boss (seek_waiting h.holdings)

abbrev pub turned : Helper → Refusal → TookIn
turned h why = record { helper = h; taking = Err (Turned why) }

abbrev pub taken : Helper → Option Mail → TookIn
taken h post = record { helper = h; taking = Ok post }

-- coins that can be: some, and few enough
abbrev pub counts : Holding → ℕ → Bool
counts x c = not (c == 0) && nat_lt (x.coins + c) limit

-- what it has of a letter that coins have come of, if they can be and the letter can
abbrev pub counted : Helper → LetterId → ℕ → Result Holding Refusal
counted h letter c =
    cond (counts (holding_of h letter.number) c)
    (cond (letter.number == 0) (Err NoLetter) (Ok (holding_of h letter.number)))
    (Err Malformed)

-- Take: work has come, with coins
abbrev pub work_at : Helper → LetterId → ℕ → Holding → ℕ → TookIn
work_at h letter c x i = cond (nat_lt i 64) (taken (write h i letter.number (took x c)) None) (turned h LettersFull)

abbrev pub work_step : Helper → LetterId → ℕ → TookIn
work_step h letter c =
    cond (counts (holding_of h letter.number) c)
    (cond (letter.number == 0) (turned h NoLetter)
    (work_at h letter c (holding_of h letter.number) (slot_for h letter.number)))
    (turned h Malformed)

-- Coins alone have come: they join those of who is at work; else they go back, or are kept until there is a place
abbrev pub keep_at : Helper → LetterId → ℕ → Holding → ℕ → TookIn
keep_at h letter c x i =
    cond (nat_lt i 64) (taken (write h i letter.number (answered x c)) None) (record { helper = h; taking = Err Later })

abbrev pub more_for : Helper → LetterId → ℕ → ℕ → Holding → TookIn
more_for h letter c boss x =
    cond (not x.working && nat_lt 0 boss)
    (taken (clear h (place h.letters letter.number)) (Some (to_boss h letter (Back (x.coins + c)))))
    (keep_at h letter c x (slot_for h letter.number))

abbrev pub more_step : Helper → LetterId → ℕ → ℕ → TookIn
more_step h letter c boss =
    cond (counts (holding_of h letter.number) c)
    (cond (letter.number == 0) (turned h NoLetter) (more_for h letter c boss (holding_of h letter.number)))
    (turned h Malformed)

-- the boss has no coins to give: it may ask again
abbrev pub no_more_at : Helper → ℕ → Helper
no_more_at h i = cond (nat_lt i 64) (store h i (answered (at h.holdings i) 0)) h

abbrev pub no_more_step : Helper → LetterId → TookIn
no_more_step h letter = taken (no_more_at h (place h.letters letter.number)) None

-- a message has come to a helper; boss: the places that there are towards the boss
abbrev pub arrive_step : Helper → LetterId → Kind → ℕ → TookIn
arrive_step h letter (Work c) boss = work_step h letter c
arrive_step h letter (More c) boss = more_step h letter c boss
arrive_step h letter NoMore boss = no_more_step h letter
arrive_step h letter (Back c) boss = turned h Malformed
arrive_step h letter Ask boss = turned h Malformed

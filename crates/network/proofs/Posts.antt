-- Who sends what a step sends: the boss, or the helper whose step it is.
use Rattle.std.proofs.Common.{◌≡◌, ℕ, ◌+◌, cond, not, ◌&&◌, ◌||◌, eqb, ltb, leb, get_or, refl, subst, Ok, Option, Err, Some, None}
use Rattle.coins.specs.declared.answer.Refusal.TheVariants.{NoPlace}
use Rattle.coins.specs.declared.ids.LetterId.{LetterId}
use Rattle.coins.specs.declared.ids.NodeId.{NodeId}
use Rattle.coins.specs.declared.mail.Kind.{Kind}
use Rattle.coins.specs.declared.mail.Kind.TheVariants.{Work, More, Back, NoMore, Ask}
use Rattle.coins.specs.declared.mail.Mail.{Mail}
use Rattle.coins.specs.Mails.{Taking}
use Rattle.coins.specs.declared.mail.Untaken.TheVariants.{Later, Refused}
use Rattle.helper_coins.specs.declared.helper.Helper.{Helper}
use Rattle.boss_coins.specs.declared.boss.Boss.{Boss}
use Rattle.coins.specs.Limits.{boss_number, grant, limit}
use Rattle.coins.specs.Letters.{seek, place}
use Rattle.helper_coins.specs.declared.holding.Holding.{Holding}
use Rattle.helper_coins.specs.Helpers.{at}
use Rattle.helper_coins.specs.Helpers as helper
use Rattle.boss_coins.specs.Bosses as boss
use Rattle.runs.proofs.Tables.{by_test}

-- what is sent, if anything is, comes from this number
abbrev pub SentBy : ℕ → Option Mail → Type 0
SentBy n None = Unit {0}
SentBy n (Some m) = m.sender.number ≡ n

abbrev TookBy : ℕ → Taking → Type 0
TookBy n (Ok p) = SentBy n p
TookBy n (Err Later) = Unit {0}
TookBy n (Err (Refused why)) = Unit {0}

-- a fact about what a step leads to, kept whole while its tests are gone through
record Holds {X : Type 0} (P : X → Type 0) (x : X) : Type 0 where
  fact : P x

-- the boss
module _ (b : Boss) where
  abbrev Gave : boss.Called → Type 0
  Gave = Holds (λ d. SentBy boss_number d.outcome.post)

  abbrev Got : boss.TookIn → Type 0
  Got = Holds (λ d. TookBy boss_number d.taking)

  pub give_by : (letter : LetterId) (to : NodeId) (room : ℕ) → SentBy boss_number (boss.give_step b letter to room).outcome.post
  give_by letter to room = whole.fact
    where
      n : ℕ
      n = letter.number

      roomy : (x : boss.Called) → Gave x → Gave (cond (eqb room 0) (boss.refuse b NoPlace) x)
      roomy x g = by_test Gave (eqb room 0) _ _ (λ _. record { fact = tt }) (λ _. g)

      whole : Gave (boss.give_step b letter to room)
      whole =
          by_test Gave (ltb 255 to.number) _ _ (λ _. record { fact = tt })
          (λ _. by_test Gave (ltb (place b.letters n) 64) _ _
          (λ _. by_test Gave (ltb (get_or b.given (place b.letters n) 0 + grant) limit) _ _ (λ _. roomy _ (record { fact = refl })) (λ _. record { fact = tt }))
          (λ _. by_test Gave (ltb b.highest n) _ _
          (λ _. by_test Gave (ltb (seek b.letters 0) 64) _ _ (λ _. roomy _ (record { fact = refl })) (λ _. record { fact = tt })) (λ _. record { fact = tt })))

  pub say_by : (letter : LetterId) → SentBy boss_number (boss.say_step b letter).outcome.post
  say_by letter = whole.fact
    where
      i : ℕ
      i = place b.letters letter.number

      whole : Gave (boss.say_step b letter)
      whole = by_test Gave (ltb i 64) _ _ (λ _. by_test Gave (eqb (get_or b.given i 0) (get_or b.back i 0)) _ _ (λ _. record { fact = tt }) (λ _. record { fact = tt })) (λ _. record { fact = tt })

  ask_by : (sender : NodeId) (letter : LetterId) (room : ℕ) → Got (boss.ask_step b sender letter room)
  ask_by sender letter room =
      by_test Got (eqb room 0) _ _ (λ _. record { fact = tt })
      (λ _. by_test Got (ltb (place b.letters letter.number) 64) _ _
      (λ _. by_test Got (ltb (get_or b.given (place b.letters letter.number) 0 + grant) limit) _ _ (λ _. record { fact = refl }) (λ _. record { fact = refl })) (λ _. record { fact = refl }))

  back_by : (letter : LetterId) (c : ℕ) → Got (boss.back_step b letter c)
  back_by letter c =
      let i : ℕ = place b.letters letter.number in
      by_test Got (eqb c 0 || leb 64 i) _ _ (λ _. record { fact = tt }) (λ _. by_test Got (leb (get_or b.back i 0 + c) (get_or b.given i 0)) _ _ (λ _. record { fact = tt }) (λ _. record { fact = tt }))

  receive_got : (sender : NodeId) (letter : LetterId) (kind : Kind) (room : ℕ) → Got (boss.receive_step b sender letter kind room)
  receive_got sender letter (Back c) room = back_by letter c
  receive_got sender letter Ask room = ask_by sender letter room
  receive_got sender letter (Work c) room = record { fact = tt }
  receive_got sender letter (More c) room = record { fact = tt }
  receive_got sender letter NoMore room = record { fact = tt }

  pub receive_by : (sender : NodeId) (letter : LetterId) (kind : Kind) (room : ℕ) (c : Boss) (p : Option Mail) →
      boss.receive_step b sender letter kind room ≡ record { boss = c; taking = Ok p } → SentBy boss_number p
  receive_by sender letter kind room c p e = (subst Got e (receive_got sender letter kind room)).fact

-- a helper
module _ (h : Helper) where
  abbrev Did : helper.Called → Type 0
  Did = Holds (λ d. SentBy h.me.number d.outcome.post)

  abbrev Met : helper.TookIn → Type 0
  Met = Holds (λ d. TookBy h.me.number d.taking)

  abbrev SentOff : helper.Flushed → Type 0
  SentOff = Holds (λ d. SentBy h.me.number d.post)

  pub share_by : (letter : LetterId) (to : NodeId) (peer boss : ℕ) → SentBy h.me.number (helper.share_step h letter to peer boss).outcome.post
  share_by letter to peer boss = whole.fact
    where
      i : ℕ
      i = place h.letters letter.number

      x : Holding
      x = at h.holdings i

      whole : Did (helper.share_step h letter to peer boss)
      whole =
          by_test Did (ltb 255 to.number) _ _ (λ _. record { fact = tt })
          (λ _. by_test Did (ltb i 64) _ _
          (λ _. by_test Did x.working _ _
          (λ _. by_test Did (ltb x.coins 2) _ _ (λ _. by_test Did (x.asked || eqb boss 0) _ _ (λ _. record { fact = tt }) (λ _. record { fact = refl }))
          (λ _. by_test Did (eqb to.number h.me.number) _ _ (λ _. record { fact = tt }) (λ _. by_test Did (eqb peer 0) _ _ (λ _. record { fact = tt }) (λ _. record { fact = refl }))))
          (λ _. record { fact = tt })) (λ _. record { fact = tt }))

  pub rest_by : (letter : LetterId) (boss : ℕ) → SentBy h.me.number (helper.rest_step h letter boss).outcome.post
  rest_by letter boss = whole.fact
    where
      i : ℕ
      i = place h.letters letter.number

      whole : Did (helper.rest_step h letter boss)
      whole =
          by_test Did (ltb i 64) _ _ (λ _. by_test Did (at h.holdings i).working _ _ (λ _. by_test Did (eqb boss 0) _ _ (λ _. record { fact = tt }) (λ _. record { fact = refl })) (λ _. record { fact = tt })) (λ _. record { fact = tt })

  pub flush_by : (boss : ℕ) → SentBy h.me.number (helper.flush_step h boss).post
  flush_by boss = whole.fact
    where
      whole : SentOff (helper.flush_step h boss)
      whole = by_test SentOff (ltb (helper.seek_waiting h.holdings) 64 && not (eqb boss 0)) _ _ (λ _. record { fact = refl }) (λ _. record { fact = tt })

  work_by : (letter : LetterId) (c : ℕ) → Met (helper.work_step h letter c)
  work_by letter c =
      by_test Met (helper.counts (helper.holding_of h letter.number) c) _ _
      (λ _. by_test Met (eqb letter.number 0) _ _ (λ _. record { fact = tt }) (λ _. by_test Met (ltb (helper.slot_for h letter.number) 64) _ _ (λ _. record { fact = tt }) (λ _. record { fact = tt }))) (λ _. record { fact = tt })

  more_by : (letter : LetterId) (c boss : ℕ) → Met (helper.more_step h letter c boss)
  more_by letter c boss =
      by_test Met (helper.counts (helper.holding_of h letter.number) c) _ _
      (λ _. by_test Met (eqb letter.number 0) _ _ (λ _. record { fact = tt })
      (λ _. by_test Met (not (helper.holding_of h letter.number).working && ltb 0 boss) _ _ (λ _. record { fact = refl }) (λ _. by_test Met (ltb (helper.slot_for h letter.number) 64) _ _ (λ _. record { fact = tt }) (λ _. record { fact = tt }))))
      (λ _. record { fact = tt })

  arrive_met : (letter : LetterId) (kind : Kind) (boss : ℕ) → Met (helper.arrive_step h letter kind boss)
  arrive_met letter (Work c) boss = work_by letter c
  arrive_met letter (More c) boss = more_by letter c boss
  arrive_met letter NoMore boss = record { fact = tt }
  arrive_met letter (Back c) boss = record { fact = tt }
  arrive_met letter Ask boss = record { fact = tt }

  pub arrive_by : (letter : LetterId) (kind : Kind) (boss : ℕ) (g : Helper) (p : Option Mail) →
      helper.arrive_step h letter kind boss ≡ record { helper = g; taking = Ok p } → SentBy h.me.number p
  arrive_by letter kind boss g p e = (subst Met e (arrive_met letter kind boss)).fact

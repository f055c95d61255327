-- The rules of coins for one letter, each by itself: what may happen to a letter, and nothing else may.
use Rattle.std.specs.Prelude.{◌≡◌, ℕ, ◌+◌, ◌/◌, ◌<◌, ◌≤◌, Bool, true, false, List, [], ◌∷◌, ◌++◌, length, slice_set}
use Rattle.coins.specs.declared.mail.Kind.{Kind}
use Rattle.coins.specs.declared.mail.Kind.TheVariants.{Work, More, Back, NoMore, Ask}
use Rattle.coins.specs.declared.mail.Mail.{Mail}
use Rattle.helper_coins.specs.declared.holding.Holding.{Holding}
use Rattle.coins.specs.Limits.{grant, limit, boss_number}
use Rattle.helper_coins.specs.Holdings.{idle, took, kept, waiting, answered, waits}
use Rattle.runs.specs.Letter.{View, holding_at}

-- a message for a helper that there is, and one for the boss
abbrev pub ToHelper : View → Mail → Kind → Type 0
ToHelper v m k = (m.receiver.number < length v.holdings) × (m.kind ≡ k)

abbrev pub ToBoss : View → ℕ → Mail → Kind → Type 0
ToBoss v i m k = (i < length v.holdings) × (m.sender.number ≡ i) × (m.receiver.number ≡ boss_number) × (m.kind ≡ k)

-- helper i has come to x, and the messages are ms
abbrev pub now_has : View → ℕ → Holding → List Mail → View
now_has v i x ms =
    record { live = v.live; done = v.done; given = v.given; back = v.back; holdings = slice_set v.holdings i x; post = ms }

-- the boss's counts have come to these, and the messages are ms
abbrev pub now_counts : View → ℕ → ℕ → List Mail → View
now_counts v given back ms =
    record { live = v.live; done = v.done; given = given; back = back; holdings = v.holdings; post = ms }

pub data Move : View → View → Type 0 where
  -- the boss gives work, before it has said done
  gives : (v : View) (m : Mail) → v.done ≡ false → v.given + grant < limit → ToHelper v m (Work grant) →
      Move v (record { live = true; done = false; given = v.given + grant; back = v.back; holdings = v.holdings; post = v.post ++ m ∷ [] })
  -- work comes: only this puts somebody to work
  takes : (v : View) (m : Mail) (c : ℕ) (a b : List Mail) → v.post ≡ a ++ m ∷ b → ToHelper v m (Work c) →
      Move v (now_has v m.receiver.number (took (holding_at v.holdings m.receiver.number) c) (a ++ b))
  -- a helper at work gives the smaller half of its coins on with work
  shares : (v : View) (m : Mail) (i : ℕ) → i < length v.holdings → (holding_at v.holdings i).working ≡ true → 2 ≤ (holding_at v.holdings i).coins →
      ToHelper v m (Work ((holding_at v.holdings i).coins / 2)) →
      Move v (now_has v i (kept (holding_at v.holdings i)) (v.post ++ m ∷ []))
  -- a helper at work asks for more
  asks : (v : View) (m : Mail) (i : ℕ) → (holding_at v.holdings i).working ≡ true → ToBoss v i m Ask →
      Move v (now_has v i (waiting (holding_at v.holdings i)) (v.post ++ m ∷ []))
  -- a helper at work rests, and all its coins go back
  rests : (v : View) (m : Mail) (i : ℕ) → (holding_at v.holdings i).working ≡ true → ToBoss v i m (Back (holding_at v.holdings i).coins) →
      Move v (now_has v i idle (v.post ++ m ∷ []))
  -- coins of a helper that is not at work go back
  flushes : (v : View) (m : Mail) (i : ℕ) → waits (holding_at v.holdings i) ≡ true → ToBoss v i m (Back (holding_at v.holdings i).coins) →
      Move v (now_has v i idle (v.post ++ m ∷ []))
  -- coins alone come, and are kept beside those that it has: it is at work or not as before
  keeps : (v : View) (m : Mail) (c : ℕ) (a b : List Mail) → v.post ≡ a ++ m ∷ b → ToHelper v m (More c) →
      Move v (now_has v m.receiver.number (answered (holding_at v.holdings m.receiver.number) c) (a ++ b))
  -- coins alone come to a helper that is not at work, and go back with what it had
  declines : (v : View) (m n : Mail) (c : ℕ) (a b : List Mail) → v.post ≡ a ++ m ∷ b → ToHelper v m (More c) →
      (holding_at v.holdings m.receiver.number).working ≡ false →
      ToBoss v m.receiver.number n (Back ((holding_at v.holdings m.receiver.number).coins + c)) →
      Move v (now_has v m.receiver.number idle ((a ++ b) ++ n ∷ []))
  -- a helper hears that there are no more
  hears : (v : View) (m : Mail) (a b : List Mail) → v.post ≡ a ++ m ∷ b → ToHelper v m NoMore →
      Move v (now_has v m.receiver.number (answered (holding_at v.holdings m.receiver.number) 0) (a ++ b))
  -- the boss is asked, and gives more, before it has said done
  grants : (v : View) (m n : Mail) (a b : List Mail) → v.post ≡ a ++ m ∷ b → ToBoss v m.sender.number m Ask →
      v.live ≡ true → v.given + grant < limit → n.receiver.number ≡ m.sender.number → n.kind ≡ More grant →
      Move v (now_counts v (v.given + grant) v.back ((a ++ b) ++ n ∷ []))
  -- the boss is asked, and has none
  denies : (v : View) (m n : Mail) (a b : List Mail) → v.post ≡ a ++ m ∷ b → ToBoss v m.sender.number m Ask →
      n.receiver.number ≡ m.sender.number → n.kind ≡ NoMore →
      Move v (now_counts v v.given v.back ((a ++ b) ++ n ∷ []))
  -- coins come back to the boss
  returns : (v : View) (m : Mail) (c : ℕ) (a b : List Mail) → v.post ≡ a ++ m ∷ b → m.receiver.number ≡ boss_number → m.kind ≡ Back c →
      Move v (now_counts v v.given (v.back + c) (a ++ b))
  -- the boss says done, when all coins are back
  says : (v : View) → v.live ≡ true → v.given ≡ v.back →
      Move v (record { live = false; done = true; given = 0; back = 0; holdings = v.holdings; post = v.post })
  -- a number that was never given is passed over when one above it is opened: it will not be given any more
  skips : (v : View) → v.live ≡ false →
      Move v (record { live = false; done = true; given = v.given; back = v.back; holdings = v.holdings; post = v.post })

-- whether a move gives work from the boss, and how many messages come by it
abbrev pub is_giving : {v u : View} → Move v u → Bool
is_giving (gives v m nd few to) = true
is_giving (takes v m c a b e to) = false
is_giving (shares v m i l bz co to) = false
is_giving (asks v m i bz to) = false
is_giving (rests v m i bz to) = false
is_giving (flushes v m i bz to) = false
is_giving (keeps v m c a b e to) = false
is_giving (declines v m n c a b e to id bk) = false
is_giving (hears v m a b e to) = false
is_giving (grants v m n a b e from lv few to k) = false
is_giving (denies v m n a b e from to k) = false
is_giving (returns v m c a b e to k) = false
is_giving (says v lv eq) = false
is_giving (skips v lv) = false

abbrev pub coming : {v u : View} → Move v u → ℕ
coming (gives v m nd few to) = 0
coming (takes v m c a b e to) = 1
coming (shares v m i l bz co to) = 0
coming (asks v m i bz to) = 0
coming (rests v m i bz to) = 0
coming (flushes v m i bz to) = 0
coming (keeps v m c a b e to) = 1
coming (declines v m n c a b e to id bk) = 1
coming (hears v m a b e to) = 1
coming (grants v m n a b e from lv few to k) = 1
coming (denies v m n a b e from to k) = 1
coming (returns v m c a b e to k) = 1
coming (says v lv eq) = 0
coming (skips v lv) = 0

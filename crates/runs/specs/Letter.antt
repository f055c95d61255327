-- The world as one letter sees it.
use Rattle.std.specs.Prelude.{◌≡◌, ℕ, ◌+◌, Bool, true, false, cond, not, ◌&&◌, List, map, All, sum_by, filter, ◌==◌, nat_le, slice_index_or}
use Rattle.coins.specs.declared.mail.Kind.{Kind}
use Rattle.coins.specs.declared.mail.Kind.TheVariants.{Work, More, Back, NoMore, Ask}
use Rattle.coins.specs.declared.mail.Mail.{Mail}
use Rattle.helper_coins.specs.declared.helper.Helper.{Helper}
use Rattle.helper_coins.specs.declared.holding.Holding.{Holding}
use Rattle.boss_coins.specs.declared.boss.Boss.{Boss}
use Rattle.coins.specs.Mails.{coins_in}
use Rattle.helper_coins.specs.Holdings.{idle, waits}
use Rattle.helper_coins.specs.Helpers.{holding_of}
use Rattle.boss_coins.specs.Bosses.{is_open, given_of, back_of}
use Rattle.runs.specs.System.{World}

-- A letter is done when its number is not above the highest that was opened, and it is not open: the boss has said
-- done, or its number was passed over. Either way it is never given again.
abbrev pub is_done : Boss → ℕ → Bool
is_done b letter = nat_le letter b.highest && not (is_open b letter)

-- the boss's counts, 0 while it is not open; each helper's state; and the messages of the letter
pub record View : Type 0 where
  pub live : Bool
  pub done : Bool
  pub given : ℕ
  pub back : ℕ
  pub holdings : List Holding
  pub post : List Mail

abbrev pub is_of : ℕ → Mail → Bool
is_of letter m = m.letter.number == letter

unfoldable pub holdings_of : ℕ → List Helper → List Holding
holdings_of letter hs = map (λ h. holding_of h letter) hs

unfoldable pub post_of : ℕ → List Mail → List Mail
post_of letter ms = filter (is_of letter) ms

abbrev pub view : ℕ → World → View
view letter w =
    record {
      live = is_open w.boss letter;
      done = is_done w.boss letter;
      given = given_of w.boss letter;
      back = back_of w.boss letter;
      holdings = holdings_of letter w.helpers;
      post = post_of letter w.post;
    }

abbrev pub holding_at : List Holding → ℕ → Holding
holding_at hs i = slice_index_or hs i idle

-- Nobody is at work on the letter, and no work of it is on its way to anybody.
abbrev pub is_work : Kind → Bool
is_work (Work c) = true
is_work (More c) = false
is_work (Back c) = false
is_work NoMore = false
is_work Ask = false

pub record Quiet (v : View) : Type 0 where
  pub nobody : (i : ℕ) → (holding_at v.holdings i).working ≡ false
  pub nothing : All (λ m. is_work m.kind ≡ false) v.post

-- the coins that helpers have, and those that are under way
unfoldable pub held : List Holding → ℕ
held hs = sum_by (λ h. h.coins) hs

unfoldable pub under_way : List Mail → ℕ
under_way ms = sum_by (λ m. coins_in m.kind) ms

-- How much there is to come, at most: for each message what it can lead to, and for coins that wait for a place
-- that they go, and come.
abbrev pub weigh : Kind → ℕ
weigh (Work c) = 1
weigh (More c) = 3
weigh (Back c) = 1
weigh NoMore = 1
weigh Ask = 4

abbrev pub delay : Holding → ℕ
delay h = cond (waits h) 2 0

unfoldable pub mailed : List Mail → ℕ
mailed ms = sum_by (λ m. weigh m.kind) ms

unfoldable pub delayed : List Holding → ℕ
delayed hs = sum_by delay hs

abbrev pub to_come : View → ℕ
to_come v = mailed v.post + delayed v.holdings

-- Which messages can be.
use Rattle.std.specs.Prelude.{◌≡◌, ℕ, ◌^◌, ◌<◌, ◌≤◌, Bool, true, false, not, ◌&&◌, List, [], length, All, ◌==◌, nat_lt}
use Rattle.coins.specs.Nodes.{is_helper, is_boss, is_node}
use Rattle.coins.specs.declared.mail.Kind.TheVariants.{Work, More, Back, NoMore, Ask}
use Rattle.wire.specs.declared.message.Body.{Body}
use Rattle.wire.specs.declared.message.Body.TheVariants.{Numbered, Taken}
use Rattle.wire.specs.Messages.{Msg, body_coins}

-- which way each body goes: sender, receiver
abbrev pub goes : ℕ → ℕ → Body → Bool
goes s r (Numbered (Work c)) = is_node s && (is_helper r && not (s == r))
goes s r (Numbered (More c)) = is_boss s && is_helper r
goes s r (Numbered (Back c)) = is_helper s && is_boss r
goes s r (Numbered NoMore) = is_boss s && is_helper r
goes s r (Numbered Ask) = is_helper s && is_boss r
goes s r Taken = is_node s && (is_node r && not (s == r))

-- work, more coins and coins that go back come with at least one coin
abbrev pub is_paid : Body → Bool
is_paid (Numbered (Work c)) = nat_lt 0 c
is_paid (Numbered (More c)) = nat_lt 0 c
is_paid (Numbered (Back c)) = nat_lt 0 c
is_paid (Numbered NoMore) = true
is_paid (Numbered Ask) = true
is_paid Taken = true

-- bytes go with work alone
abbrev pub has_work : Body → Bool
has_work (Numbered (Work c)) = true
has_work (Numbered (More c)) = false
has_work (Numbered (Back c)) = false
has_work (Numbered NoMore) = false
has_work (Numbered Ask) = false
has_work Taken = false

abbrev pub AllBytes : List ℕ → Type 0
AllBytes bs = All (λ b. b < 256) bs

-- a message that can be
pub record Sound (m : Msg) : Type 0 where
  pub letter_fits : m.letter < 2 ^ 32
  pub number_fits : m.number < 2 ^ 64
  pub coins_fit : body_coins m.body < 2 ^ 64
  pub goes_so : goes m.sender m.receiver m.body ≡ true
  pub paid : is_paid m.body ≡ true
  pub short : length m.work ≤ 256
  pub bytes : AllBytes m.work
  pub bare : has_work m.body ≡ false → m.work ≡ []

-- A boss, helpers, and the messages under way, each with the bytes of its work.
use Rattle.std.specs.Prelude.{ℕ, ◌+◌, ◌-◌, List, [], ◌∷◌, ◌++◌, map, sum_by, count_by, Some, None, Option, nat_lt}
use Rattle.std.specs.List.{position_or_len}
use Rattle.coins.specs.Works.{Work}
use Rattle.coins.specs.declared.ids.NodeId.{NodeId}
use Rattle.coins.specs.declared.mail.Mail.{Mail}
use Rattle.helper_coins.specs.declared.helper.Helper.{Helper}
use Rattle.boss_coins.specs.declared.boss.Boss.{Boss}
use Rattle.helper_coins.specs.Helpers.{seek_waiting}
use Rattle.boss_coins.specs.Bosses.{new_boss}
use Rattle.runs.specs.System.{World, crew, on_line}
use Rattle.runs.specs.Letter.{mailed, delayed}
use Rattle.coins.specs.declared.parcel.Parcel.{Parcel}
use Rattle.coins.specs.Parcels.{parcel_of}

pub record Scene : Type 0 where
  pub boss : Boss
  pub helpers : List Helper
  pub parcels : List Parcel

-- nothing has happened yet, with so many helpers
abbrev pub opening : ℕ → Scene
opening n = record { boss = new_boss; helpers = crew n; parcels = [] }

unfoldable pub mails : List Parcel → List Mail
mails ps = map (λ p. p.mail) ps

-- the world of a scene: what it is without the bytes of work
abbrev pub world : Scene → World
world s = record { boss = s.boss; helpers = s.helpers; post = mails s.parcels }

-- what a step sends goes behind the others
abbrev pub sent_on : Option Mail → Work → List Parcel → List Parcel
sent_on None work ps = ps
sent_on (Some m) work ps = ps ++ parcel_of m work ∷ []

-- how many places there are on a line: 1,024, less those that are taken
unfoldable pub room : List Parcel → NodeId → NodeId → ℕ
room ps s r = 1024 - count_by (λ p. on_line s r p.mail) ps

-- the first message for one of n helpers, or how many there are
abbrev pub seek_helper : List Parcel → ℕ → ℕ
seek_helper ps n = position_or_len (λ p. nat_lt p.mail.receiver.number n) ps

-- the first helper with coins that wait for a place, or how many there are
abbrev pub seek_holder : List Helper → ℕ
seek_holder hs = position_or_len (λ h. nat_lt (seek_waiting h.holdings) 64) hs

-- how much there is to come, of all letters
unfoldable pub load : World → ℕ
load w = mailed w.post + sum_by (λ h. delayed h.holdings) w.helpers

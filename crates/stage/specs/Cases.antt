-- Worked cases, as rows of one table: what is played, and what is seen of letter 1 after it.
use Rattle.std.specs.Prelude.{◌≡◌, ℕ, zero, suc, Bool, true, false, List, [], ◌∷◌, ◌++◌, map, All}
use Rattle.coins.specs.declared.answer.Answer.{Answer}
use Rattle.coins.specs.declared.answer.Answer.TheVariants.{Fine, Done, Refused}
use Rattle.coins.specs.declared.answer.Refusal.TheVariants.{CoinsOut, OneCoin}
use Rattle.coins.specs.declared.ids.NodeId.{NodeId}
use Rattle.coins.specs.declared.ids.LetterId.{LetterId}
use Rattle.coins.specs.declared.mail.Mail.{Mail}
use Rattle.helper_coins.specs.declared.holding.Holding.{Holding}
use Rattle.coins.specs.Mails.{coins_in}
use Rattle.runs.specs.Letter.{view}
use Rattle.stage.specs.declared.command.Command.{Command}
use Rattle.stage.specs.declared.command.Command.TheVariants.{Give, Share, Rest, Say, Pass}
use Rattle.coins.specs.Works.{no_work}
use Rattle.stage.specs.Scenes.{opening, world}
use Rattle.stage.specs.Plays.{Out, plays}

-- what is seen: the last answer; the boss's counts; of each helper its coins, and whether it is at work; and the coins
-- of each message under way
pub record Seen : Type 0 where
  pub answer : Answer
  pub given : ℕ
  pub back : ℕ
  pub coins : List ℕ
  pub working : List Bool
  pub under_way : List ℕ

-- a part of a case: commands, and what is seen after them
pub record Part : Type 0 where
  pub commands : List Command
  pub seen : Seen

-- a case: with so many helpers, part after part
pub record Case : Type 0 where
  pub helpers : ℕ
  pub parts : List Part

abbrev pub play_all : Out → List Command → Out
play_all o [] = o
play_all o (c ∷ cs) = play_all (plays o.scene c no_work) cs

abbrev pub look : Out → Seen
look o =
    record {
      answer = o.answer;
      given = (view 1 (world o.scene)).given;
      back = (view 1 (world o.scene)).back;
      coins = map (λ (h : Holding). h.coins) (view 1 (world o.scene)).holdings;
      working = map (λ (h : Holding). h.working) (view 1 (world o.scene)).holdings;
      under_way = map (λ (m : Mail). coins_in m.kind) (view 1 (world o.scene)).post;
    }

-- after each part it is as the part says
abbrev pub Goes : Out → List Part → Type 0
Goes o [] = Unit {0}
Goes o (p ∷ ps) = (look (play_all o p.commands) ≡ p.seen) × Goes (play_all o p.commands) ps

abbrev pub Holds : Case → Type 0
Holds c = Goes (record { scene = opening c.helpers; answer = Fine }) c.parts

-- words for what is played
abbrev helper : ℕ → NodeId
helper i = record { number = i }

abbrev letter : LetterId
letter = record { number = 1 }

abbrev give : ℕ → Command
give i = Give letter (helper i)

abbrev share : ℕ → ℕ → Command
share i j = Share (helper i) letter (helper j)

abbrev rest : ℕ → Command
rest i = Rest (helper i) letter

abbrev pass : ℕ → ℕ → Command
pass i j = Pass (helper i) (helper j)

abbrev boss : ℕ
boss = 65535

abbrev times : ℕ → Command → List Command
times zero c = []
times (suc n) c = c ∷ times n c

-- Work is given, shared and finished; and work that is under way keeps the letter from being done.
abbrev pub sharing : Case
sharing = record {
  helpers = 2;
  parts =
      record { commands = give 0 ∷ pass boss 0 ∷ []; seen = record { answer = Fine; given = 1048576; back = 0; coins = 1048576 ∷ 0 ∷ []; working = true ∷ false ∷ []; under_way = [] } }
      ∷ record { commands = share 0 1 ∷ pass 0 1 ∷ []; seen = record { answer = Fine; given = 1048576; back = 0; coins = 524288 ∷ 524288 ∷ []; working = true ∷ true ∷ []; under_way = [] } }
      ∷ record { commands = rest 0 ∷ pass 0 boss ∷ []; seen = record { answer = Fine; given = 1048576; back = 524288; coins = 0 ∷ 524288 ∷ []; working = false ∷ true ∷ []; under_way = [] } }
      ∷ record { commands = Say letter ∷ []; seen = record { answer = Refused CoinsOut; given = 1048576; back = 524288; coins = 0 ∷ 524288 ∷ []; working = false ∷ true ∷ []; under_way = [] } }
      ∷ record { commands = share 1 0 ∷ rest 1 ∷ pass 1 boss ∷ []; seen = record { answer = Fine; given = 1048576; back = 786432; coins = 0 ∷ 0 ∷ []; working = false ∷ false ∷ []; under_way = 262144 ∷ [] } }
      ∷ record { commands = Say letter ∷ []; seen = record { answer = Refused CoinsOut; given = 1048576; back = 786432; coins = 0 ∷ 0 ∷ []; working = false ∷ false ∷ []; under_way = 262144 ∷ [] } }
      ∷ record { commands = pass 1 0 ∷ rest 0 ∷ pass 0 boss ∷ []; seen = record { answer = Fine; given = 1048576; back = 1048576; coins = 0 ∷ 0 ∷ []; working = false ∷ false ∷ []; under_way = [] } }
      ∷ record { commands = Say letter ∷ []; seen = record { answer = Done; given = 0; back = 0; coins = 0 ∷ 0 ∷ []; working = false ∷ false ∷ []; under_way = [] } }
      ∷ [];
}

-- A helper shares until it has one coin: each share gives half away.
abbrev halves : List ℕ
halves = 524288 ∷ 262144 ∷ 131072 ∷ 65536 ∷ 32768 ∷ 16384 ∷ 8192 ∷ 4096 ∷ 2048 ∷ 1024 ∷ 512 ∷ 256 ∷ 128 ∷ 64 ∷ 32 ∷ 16 ∷ 8 ∷ 4 ∷ 2 ∷ 1 ∷ []

abbrev spent : Part
spent = record { commands = give 0 ∷ pass boss 0 ∷ times 20 (share 0 1); seen = record { answer = Fine; given = 1048576; back = 0; coins = 1 ∷ 0 ∷ []; working = true ∷ false ∷ []; under_way = halves } }

-- With one coin it asks for more.
abbrev asked : Part
asked = record { commands = share 0 1 ∷ []; seen = record { answer = Refused OneCoin; given = 1048576; back = 0; coins = 1 ∷ 0 ∷ []; working = true ∷ false ∷ []; under_way = halves ++ 0 ∷ [] } }

-- More come, and it shares again.
abbrev pub asking : Case
asking = record {
  helpers = 2;
  parts = spent ∷ asked
      ∷ record { commands = pass 0 boss ∷ pass boss 0 ∷ []; seen = record { answer = Fine; given = 2097152; back = 0; coins = 1048577 ∷ 0 ∷ []; working = true ∷ false ∷ []; under_way = halves } }
      ∷ record { commands = share 0 1 ∷ []; seen = record { answer = Fine; given = 2097152; back = 0; coins = 524289 ∷ 0 ∷ []; working = true ∷ false ∷ []; under_way = halves ++ 524288 ∷ [] } }
      ∷ [];
}

-- It rests before they come: its coin goes back, and then they go back by themselves.
abbrev pub resting : Case
resting = record {
  helpers = 2;
  parts = spent ∷ asked
      ∷ record { commands = rest 0 ∷ pass 0 boss ∷ pass 0 boss ∷ []; seen = record { answer = Fine; given = 2097152; back = 1; coins = 0 ∷ 0 ∷ []; working = false ∷ false ∷ []; under_way = halves ++ 1048576 ∷ [] } }
      ∷ record { commands = pass boss 0 ∷ pass 0 boss ∷ []; seen = record { answer = Fine; given = 2097152; back = 1048577; coins = 0 ∷ 0 ∷ []; working = false ∷ false ∷ []; under_way = halves } }
      ∷ [];
}

abbrev pub cases : List Case
cases = sharing ∷ asking ∷ resting ∷ []

-- every case holds
abbrev pub CasesHold : Type 0
CasesHold = All Holds cases

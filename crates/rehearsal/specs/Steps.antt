-- What a line of a script makes of what is on the stage, and adds to what is said.
use Rattle.std.specs.Prelude.{◌≡◌, ℕ, Bool, true, false, cond, ◌&&◌, List, length, None, MatchBool, ◌==◌, nat_le}
use Rattle.text.specs.Growth.{Added}
use Rattle.text.specs.Hex.{is_hex_text, bytes_of}
use Rattle.coins.specs.declared.answer.Answer.{Answer}
use Rattle.coins.specs.declared.answer.Answer.TheVariants.{Fine, Done, Refused}
use Rattle.coins.specs.declared.answer.Refusal.TheVariants.{Malformed}
use Rattle.coins.specs.Limits.{boss_number}
use Rattle.coins.specs.Works.{Work, no_work}
use Rattle.coins.specs.Works as work
use Rattle.runs.specs.System.{World, Runs, start}
use Rattle.stage.specs.declared.command.Command.{Command}
use Rattle.stage.specs.declared.command.Command.TheVariants.{Give, Share, Rest, Say, Pass, Flush}
use Rattle.stage.specs.Scenes.{Scene, opening, world}
use Rattle.stage.specs.Plays.{plays, next, Lets, Said}
use Rattle.rehearsal.specs.Answers.{answer_line}
use Rattle.rehearsal.specs.Tables.{Shown}
use Rattle.script.specs.Lines.{Plan, empty, play, settle, show, new}

-- where a helper's message came there is a place for coins of that helper that waited, and they go
abbrev pub after_pass : ℕ → Answer → Scene → Scene → Scene
after_pass sender Fine s flushed = cond (sender == boss_number) s flushed
after_pass sender Done s flushed = s
after_pass sender (Refused why) s flushed = s

abbrev pub follows : Command → Answer → Scene → Scene
follows (Pass sender receiver) a s = after_pass sender.number a s (plays s (Flush sender) no_work).scene
follows (Give letter to) a s = s
follows (Share by letter to) a s = s
follows (Rest by letter) a s = s
follows (Say letter) a s = s
follows (Flush by) a s = s

-- a command is played, and what follows it
pub record Acts (s : Scene) (command : Command) (bytes : Work) (t : Scene) (answer : Answer) : Type 0 where
  pub after : Scene
  pub played : plays s command bytes ≡ record { scene = after; answer = answer }
  pub followed : t ≡ follows command answer after

-- the hexadecimal of a piece of work: of at most 256 bytes
abbrev pub is_work : List ℕ → Bool
is_work hex = is_hex_text hex && nat_le (length (bytes_of hex)) 256

-- a command with the hexadecimal of its work; where that is none, it is refused
abbrev pub Plays : Scene → Command → List ℕ → Scene → Answer → Type 0
Plays s command hex t answer =
    MatchBool (is_work hex)
    ((bytes : Work) × (work.bytes_of bytes ≡ bytes_of hex) × Acts s command bytes t answer)
    ((t ≡ s) × (answer ≡ Refused Malformed))

-- A line that can't be read is refused and an empty one says nothing; a command is played; messages come by themselves
-- until none is left; new starts afresh; and show changes nothing. Every line but an empty one is answered; and done is
-- answered only by say, of a letter on which then nobody is at work and no work is under way.
abbrev pub Does : Bool → Plan → Scene → Scene → List ℕ → List ℕ → Type 0
Does false plan s t was now = (t ≡ s) × Added was now (answer_line (Refused Malformed))
Does true empty s t was now = (t ≡ s) × (now ≡ was)
Does true (play command hex) s t was now = (answer : Answer) × Plays s command hex t answer × Added was now (answer_line answer) × (answer ≡ Done → Said command (world t))
Does true settle s t was now = Lets s t × (next t ≡ None) × Added was now (answer_line Fine)
Does true show s t was now = (t ≡ s) × ((shown : List ℕ) × Shown s was shown × Added shown now (answer_line Fine))
Does true (new helpers) s t was now = (t ≡ opening helpers) × Added was now (answer_line Fine)

-- What is promised of it: a command, and letting messages come, are runs of the system; a line that can't be read, is
-- empty or shows changes nothing; and new starts afresh.
abbrev pub Turns : Bool → Plan → World → World → Type 0
Turns false plan w v = v ≡ w
Turns true empty w v = v ≡ w
Turns true (play command hex) w v = Runs w v
Turns true settle w v = Runs w v
Turns true show w v = v ≡ w
Turns true (new helpers) w v = v ≡ start helpers

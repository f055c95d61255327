-- What follows a command; and what is on a new stage.
use Rattle.std.proofs.Common.{◌≡◌, ℕ, sym, refl, ap, subst}
use Rattle.coins.specs.declared.ids.NodeId.{NodeId}
use Rattle.coins.specs.declared.answer.Answer.{Answer}
use Rattle.coins.specs.declared.answer.Answer.TheVariants.{Fine, Done, Refused}
use Rattle.runs.specs.System.{World, Runs, still, start}
use Rattle.stage.specs.declared.command.Command.{Command}
use Rattle.stage.specs.declared.command.Command.TheVariants.{Give, Share, Rest, Say, Pass, Flush}
use Rattle.stage.specs.Plays.{Out, plays, Onward}
use Rattle.stage.proofs.Played.{runs_on}
use Rattle.coins.specs.Works.{Work, no_work}
use Rattle.stage.specs.Scenes.{Scene, opening, mails, world}
use Rattle.rehearsal.specs.Steps.{after_pass, follows}

pub no_pass : (c : Command) (a : Answer) (s : Scene) → ((x y : NodeId) → c ≡ Pass x y → ⊥) → follows c a s ≡ s
no_pass (Pass x y) a s h = absurd (h x y refl)
no_pass (Give letter to) a s h = refl
no_pass (Share by letter to) a s h = refl
no_pass (Rest by letter) a s h = refl
no_pass (Say letter) a s h = refl
no_pass (Flush by) a s h = refl

pub not_fine : (n : ℕ) (a : Answer) (s f : Scene) → (a ≡ Fine → ⊥) → after_pass n a s f ≡ s
not_fine n Fine s f h = absurd (h refl)
not_fine n Done s f h = refl
not_fine n (Refused why) s f h = refl

pub at_start : (s : Scene) (n : ℕ) → s ≡ opening n → world s ≡ start n
unfolding mails
at_start s n e = ap world e

pub flushed : (s t : Scene) (by : NodeId) (work : Work) (a : Answer) → plays s (Flush by) work ≡ record { scene = t; answer = a } → work ≡ no_work → t ≡ (plays s (Flush by) no_work).scene
flushed s t by work a h n = sym (ap (λ (o : Out). o.scene) (subst (λ (w : Work). plays s (Flush by) w ≡ record { scene = t; answer = a }) n h))

-- a step, or none, is a run
pub ran : {w v : World} → Onward w v → Runs w v
ran o = runs_on _ _ _ still o

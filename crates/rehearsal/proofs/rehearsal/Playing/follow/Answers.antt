use Rattle.std.proofs.Common.{sym, refl}
use Rattle.runs.specs.System.{still}
use Rattle.rehearsal.proofs.Acted.{no_pass, not_fine}
use Rattle.rehearsal.proofs.rehearsal.Playing.follow.Goals as goal

pub returns-in_default : goal.returns-in_default
returns-in_default c = record { does = sym (no_pass c.args.command c.args.answer _ c.in_default.not-Pass); goes = still; done = λ _. refl }

pub returns-in_default-answer : goal.returns-in_default-answer
returns-in_default-answer c = record { does = rw c.in-Pass.is (sym (not_fine _ c.args.answer _ _ c.in_default-answer.not-Fine)); goes = still; done = λ _. refl }

pub returns-then-eq-clause-goes : goal.returns-then-eq-clause-goes
returns-then-eq-clause-goes c = still

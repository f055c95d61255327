use Rattle.std.proofs.Common.{◌≡◌, [], ◌++◌, string_bytes, vec_items, subst, rules}
use Rattle.script.specs.Lines.{is_line, line_in}
use Rattle.rehearsal.specs.Steps.{Does}
use Rattle.rehearsal.proofs.Behind.{does_behind}
use Rattle.rehearsal.proofs.rehearsal.Rehearsal.step.Goals as goal

pub returns-clause-does : goal.returns-clause-does
returns-clause-does c =
    let line = c.args.line.now in
    let said = string_bytes c.step.new.out in
    let none : string_bytes c.clear.new.self ≡ [] = search rules in
    let all : vec_items c.extend_from_slice.new.self ≡ vec_items c.args.out.now ++ said = search rules in
    let first = subst (λ was. Does (is_line line) (line_in line) c.self.inside.playing c.step.new.self was said) none c.in_ok-step.ensures.does in
    let does = does_behind (is_line line) (line_in line) _ _ (vec_items c.args.out.now) said first in
    rw (all, ← c.self.view_is) does

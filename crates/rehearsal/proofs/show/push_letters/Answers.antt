use Rattle.std.proofs.Common.{sym, rules}
use Rattle.std.proofs.lemmas.Iterator.{YieldsList-from_slice}
use Rattle.std.proofs.lemmas.Iterator.Search.{any_from_yields_List}
use Rattle.text.proofs.Growing.{written}
use Rattle.rehearsal.proofs.Headings.{is_open, letters, no_letters}
use Rattle.rehearsal.proofs.show.push_letters.Goals as goal

pub returns-then-any : goal.returns-then-any
returns-then-any c =
    let ns = c.args.numbers.now in
    let some = any_from_yields_List is_open _ _ c.any.result c.any.ensures.ran (YieldsList-from_slice ns (cc)) (λ x b q k. search rules) in
    rw (letters c.args.stage.now ns _ some c.if-any.true) c.push_each.ensures

pub returns-else-any : goal.returns-else-any
returns-else-any c =
    let ns = c.args.numbers.now in
    let some = any_from_yields_List is_open _ _ c.any.result c.any.ensures.ran (YieldsList-from_slice ns (cc)) (λ x b q k. search rules) in
    written c.writeln.result _ _ _ _ (sym (no_letters c.args.stage.now ns _ some c.if-any.false)) c.writeln.ensures.bytes

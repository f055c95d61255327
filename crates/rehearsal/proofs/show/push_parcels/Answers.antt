use Rattle.std.proofs.Common.{sym, append-nil, rules}
use Rattle.std.proofs.lemmas.Iterator.{YieldsList-from_slice}
use Rattle.std.proofs.lemmas.Iterator.Search.{any_from_yields_List}
use Rattle.text.proofs.Growing.{then}
use Rattle.rehearsal.proofs.Headings.{is_of, heading, no_heading}
use Rattle.rehearsal.proofs.show.push_parcels.Goals as goal

pub returns-in_ok-push_rows : goal.returns-in_ok-push_rows
returns-in_ok-push_rows c =
    let ps = c.args.parcels.now in
    let letter = c.args.letter in
    let some = any_from_yields_List (is_of letter) _ _ c.any.result c.any.ensures.ran (YieldsList-from_slice ps (cc)) (λ x b q k. search rules) in
    rw (heading letter ps _ some c.if-any.true) (then (record { is = c.in_ok-writeln.ensures.bytes }) c.in_ok-push_rows.ensures)

pub returns-else-any : goal.returns-else-any
returns-else-any c =
    let ps = c.args.parcels.now in
    let letter = c.args.letter in
    let some = any_from_yields_List (is_of letter) _ _ c.any.result c.any.ensures.ran (YieldsList-from_slice ps (cc)) (λ x b q k. search rules) in
    rw (no_heading letter ps _ some c.if-any.false) (record { is = sym (append-nil _) })

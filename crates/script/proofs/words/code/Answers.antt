use Rattle.std.proofs.Common.{rules}
use Rattle.std.proofs.lemmas.Iterator.{YieldsList-from_slice}
use Rattle.std.proofs.lemmas.Iterator.Search.{position_from_yields_List}
use Rattle.script.specs.Words.{is_end, code_of}
use Rattle.script.proofs.Fronts.{first_or_end}
use Rattle.script.proofs.words.code.Goals as goal

pub returns : goal.returns
unfolding code_of
returns c =
    let found = position_from_yields_List is_end _ _ c.position.result c.position.ensures.ran (YieldsList-from_slice c.args.line.now (cc)) (λ x b q k. search rules) in
    let end = first_or_end is_end c.args.line.now c.position.result found in
    let r = c.unwrap_or-end.ensures in
    cc

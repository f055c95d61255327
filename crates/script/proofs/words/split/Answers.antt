use Rattle.std.proofs.Common.{◌-◌, length, take, drop, ◌∙◌, rules}
use Rattle.std.proofs.lemmas.Iterator.{YieldsList-from_slice}
use Rattle.std.proofs.lemmas.Iterator.Search.{position_from_yields_List}
use Rattle.script.specs.Words.{is_blank, is_ink}
use Rattle.script.proofs.Fronts.{first_or_end, no_word, a_word, begins, words_from}
use Rattle.script.proofs.words.split.Goals as goal

pub returns-in_err-start : goal.returns-in_err-start
returns-in_err-start c =
    let found = position_from_yields_List is_ink _ _ c.position.result c.position.ensures.ran (YieldsList-from_slice c.args.text.now (cc)) (λ x b q k. search rules) in
    rw c.from_residual.ensures (no_word c.args.text.now c.position.result found c.in_err-start.was)

pub returns : goal.returns
returns c =
    let text = c.args.text.now in
    let i = c.in_ok-start.start in
    let start = take (length text - i) (drop i text) in
    let found = position_from_yields_List is_ink _ _ c.position.result c.position.ensures.ran (YieldsList-from_slice text (cc)) (λ x b q k. search rules) in
    let end = position_from_yields_List is_blank _ _ c.position-2.result c.position-2.ensures.ran (YieldsList-from_slice start (cc)) (λ x b q k. search rules) in
    let cut = c.unwrap_or-end.ensures ∙ first_or_end is_blank start c.position-2.result end in
    let both = words_from text start _ _ _ (begins text _ i found c.in_ok-start.was) cut c.split_at.ensures.front c.split_at.ensures.back in
    (a_word text _ i found c.in_ok-start.was, both)

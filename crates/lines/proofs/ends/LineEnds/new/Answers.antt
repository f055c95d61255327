use Rattle.std.proofs.Common.{◌≡◌, length, map, replicate, vec_items, sym, refl, ap, ◌∙◌, rules}
use Rattle.std.proofs.lemmas.Iterator.{YieldsList-from_range, YieldsList-from_map_by, items_from_drains}
use Rattle.std.proofs.lemmas.List.{length-map}
use Rattle.lines.specs.Ends.{fresh_end}
use Rattle.lines.specs.Viewed.{end_of, ends_in}
use Rattle.lines.proofs.ends.LineEnds.new.Goals as goal

-- each number gives a fresh end
fresh : (c : goal.In_ok-ends) → map end_of (vec_items c.in_ok-ends.ends) ≡ replicate 257 fresh_end
fresh c =
    let run = c.in_ok-ends.ensures.ran in
    ap (map end_of) run.2.0
    ∙ items_from_drains run.0 run.1 (YieldsList-from_map_by _ end_of (λ _. fresh_end) (YieldsList-from_range 0 257 257 c.map.ensures.source refl) c.map.ensures.closure (λ x r q k. search rules))

pub invariant_of-result : goal.invariant_of-result
invariant_of-result c = record { all = c.in_ok-ends.ends.ok.0 ∙ sym (length-map (vec_items c.in_ok-ends.ends) end_of) ∙ ap length (fresh c) }

pub returns : goal.returns
unfolding ends_in
returns c = fresh c.before

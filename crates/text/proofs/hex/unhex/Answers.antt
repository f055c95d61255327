use Rattle.std.proofs.Common.{sym, ◌∙◌, arith}
use Rattle.text.proofs.Pairs.{some_cond, hex_more, read_more, even_more, read_all, hex_all}
use Rattle.text.proofs.hex.unhex.Goals as goal

pub loop-rest-preserved : goal.loop-rest-preserved
loop-rest-preserved c =
    let rest = c.loop-rest.rest.now in
    let two = c.in-len2-up.len_at_least in
    let is = some_cond _ _ _ (sym c.in_ok-ok_or.ensures.ok_part ∙ c.pair.ensures) in
    record {
      read = read_more _ _ rest _ _ two c.in_ok-push.ensures.items is.1 c.loop-rest.invariant.read;
      hex = sym (hex_more rest two is.0) ∙ c.loop-rest.invariant.hex;
      even = even_more rest two c.loop-rest.invariant.even;
    }

pub returns : goal.returns
returns c =
    let i = c.loop-rest.invariant in
    let one = c.in_default.len_below in
    (hex_all _ _ (omega arith) one i.even i.hex, read_all _ _ _ one i.even i.read)

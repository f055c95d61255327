use Rattle.std.proofs.Common.{◌≡◌, ◌+◌, ◌++◌, get_or, take, vec_items, arith}
use Rattle.std.proofs.lemmas.List.{take_more, take_all, flat_map_more}
use Rattle.text.specs.Hex.{hex_pair, hex_of}
use Rattle.text.proofs.hex.push_hex.Goals as goal

pub loop-byte-preserved : goal.loop-byte-preserved
loop-byte-preserved c =
    let bytes = c.args.bytes.now in
    let i = c.loop-byte.byte-index in
    let pushed = c.in_ok-extend_from_slice.ensures.items in
    let front = take_more bytes i 0 (omega arith) in
    let grouped = flat_map_more hex_pair (vec_items c.args.out.now) (take i bytes) (get_or bytes i 0) in
    let all : vec_items c.extend_from_slice.new.self ≡ vec_items c.args.out.now ++ hex_of (take (i + 1) bytes) = cc in
    all

pub returns : goal.returns
returns c = record { is = rw (take_all c.loop-byte.byte-index c.args.bytes.now (omega arith)) at c.loop-byte.invariant }

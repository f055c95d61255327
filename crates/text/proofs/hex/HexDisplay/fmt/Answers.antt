use Rattle.std.proofs.Common.{get_or, arith, rules}
use Rattle.std.proofs.Output.{has_written_append, has_written_of_eq}
use Rattle.text.proofs.Written.{byte_is, hex_more}
use Rattle.text.proofs.hex.HexDisplay.fmt.Goals as goal

pub loop-byte-preserved : goal.loop-byte-preserved
loop-byte-preserved g c = λ p.
    let bytes = c.args.self.now.0.now in
    let i = c.loop-byte.byte-index in
    let before = c.loop-byte.invariant p in
    let told = rw (c.laid_out.ensures, c.in_radix.ensures, byte_is (get_or bytes i 0) (omega arith)) at c.in_ok-write.ensures.writes in
    has_written_of_eq _ _ _ _ _ (hex_more bytes i (omega arith)) (has_written_append _ _ _ _ _ _ before (told before.plain (search rules)))

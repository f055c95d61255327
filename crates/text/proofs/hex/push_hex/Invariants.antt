use Rattle.std.proofs.Common.{◌≡◌, ◌++◌, take, vec_items}
use Rattle.text.specs.Hex.{hex_of}
use Rattle.text.proofs.hex.push_hex.Given as goal

abbrev pub invariant-loop-byte : goal.invariant-loop-byte
invariant-loop-byte l = vec_items l.out ≡ vec_items l.initial.out ++ hex_of (take l.byte-index l.bytes)

use Rattle.std.proofs.Common.{◌≡◌, ◌++◌, ◌%◌, length, vec_items}
use Rattle.text.specs.Hex.{all_hex, bytes_of}
use Rattle.text.proofs.hex.unhex.Given as goal

abbrev pub invariant-loop-rest : goal.invariant-loop-rest
invariant-loop-rest l = record {
  read : vec_items l.bytes ++ bytes_of l.rest ≡ bytes_of l.text;
  hex : all_hex l.rest ≡ all_hex l.text;
  even : length l.rest % 2 ≡ 0;
}

abbrev pub decreases-loop-rest : goal.decreases-loop-rest
decreases-loop-rest l = length l.rest

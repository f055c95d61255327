use Rattle.std.proofs.Common.{◌≡◌, ◌^◌, ◌<◌, drop}
use Rattle.text.specs.Decimal.{all_digits, value, value_after}
use Rattle.text.proofs.decimal.number.Given as goal

abbrev pub invariant-loop-byte : goal.invariant-loop-byte
invariant-loop-byte l =
    (value_after l.number (drop l.byte-index l.text) ≡ value l.text)
    × (all_digits (drop l.byte-index l.text) ≡ all_digits l.text)
    × (l.number < 2 ^ 64)

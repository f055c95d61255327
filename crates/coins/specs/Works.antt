-- The bytes of a piece of work.
use Rattle.std.specs.Prelude.{ℕ, List, []}
use Rattle.coins.specs.declared.bytes.Bytes.{Bytes}

-- at most 256 bytes: clauses see the list of them
abbrev pub Work : Type 0
Work = Bytes 256

abbrev pub no_work : Work
no_work = []

-- the bytes that it has
abbrev pub bytes_of : Work → List ℕ
bytes_of w = w

-- Reader and writer agree.
use Rattle.std.specs.Prelude.{◌≡◌, ℕ, ◌<◌, List, ◌∷◌, ◌++◌, length, take, Some, None}
use Rattle.wire.specs.Messages.{Msg}
use Rattle.wire.specs.Rules.{Sound, AllBytes}
use Rattle.wire.specs.Bytes.{decode, encode}

-- what is written is read
abbrev pub WrittenIsRead : Type 0
WrittenIsRead = (m : Msg) → Sound m → decode (encode m) ≡ Some m

-- what is read was written of a message that can be: the reader takes nothing else
abbrev pub ReadIsWritten : Type 0
ReadIsWritten = (bs : List ℕ) (m : Msg) → AllBytes bs → decode bs ≡ Some m → (bs ≡ encode m) × Sound m

-- a message that is cut short is refused
abbrev pub FirstPartsRefused : Type 0
FirstPartsRefused = (m : Msg) (k : ℕ) → Sound m → k < length (encode m) → decode (take k (encode m)) ≡ None

-- so is one with anything behind it
abbrev pub NothingBehind : Type 0
NothingBehind = (m : Msg) (x : ℕ) (xs : List ℕ) → Sound m → decode (encode m ++ (x ∷ xs)) ≡ None

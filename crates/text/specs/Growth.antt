-- What a write leaves.
use Rattle.std.specs.Prelude.{◌≡◌, ℕ, List, ◌++◌, Result, String, string_bytes, OnOk}

-- what was there, what is there now, and what came behind it
pub record Added {X : Type 0} (was now more : List X) : Type 0 where
  pub is : now ≡ was ++ more

-- what a call that prints leaves, unless there was no memory
abbrev pub Prints : {A E Z : Type 0} → Result A E → String Z → String Z → List ℕ → Type 0
Prints r was now more = OnOk r (Added (string_bytes was) (string_bytes now) more)

-- Bytes at the front of a place, with zeros behind them.
use Rattle.std.specs.Prelude.{◌≡◌, ℕ, ◌-◌, ◌≤◌, List, ◌++◌, length, take, drop, replicate}

-- bytes with zeros behind them, as far as there is place
abbrev pub padded : ℕ → List ℕ → List ℕ
padded most xs = xs ++ replicate (most - length xs) 0

-- the first len count, at most so many, and the others are zeros
pub record Filled (most len : ℕ) (place : List ℕ) : Type 0 where
  pub within : len ≤ most
  pub count : length (take len place) ≡ len
  pub zeros : drop len place ≡ replicate (most - len) 0

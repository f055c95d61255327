-- A helper as contracts see it: its number, and of each place the letter's number, 0 where it is free, and what it has of the letter.
use Rattle.std.specs.Prelude.{ℕ, List}
use Rattle.coins.specs.declared.ids.NodeId.{NodeId}
use Rattle.helper_coins.specs.declared.holding.Holding.{Holding}

pub record Shown : Type 0 where
  pub me : NodeId
  pub letters : List ℕ
  pub holdings : List Holding

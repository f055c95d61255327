-- Which numbers name a helper or the boss.
use Rattle.std.specs.Prelude.{ℕ, Bool, ◌||◌, ◌==◌, nat_le}
use Rattle.coins.specs.Limits.{boss_number}

abbrev pub is_helper : ℕ → Bool
is_helper n = nat_le n 255

abbrev pub is_boss : ℕ → Bool
is_boss n = n == boss_number

abbrev pub is_node : ℕ → Bool
is_node n = is_helper n || is_boss n

-- The numbers that the rules fix.
use Rattle.std.specs.Prelude.{ℕ}

-- the coins that go with work from the boss, and to who asks for more: 2^20
abbrev pub grant : ℕ
grant = 1048576

-- no count comes to this: 2^62
abbrev pub limit : ℕ
limit = 4611686018427387904

-- the boss's number
abbrev pub boss_number : ℕ
boss_number = 65535

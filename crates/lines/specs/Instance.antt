-- The promise of lines for a small protocol: anybody sends numbers, and what comes is noted.
use Rattle.std.specs.Prelude.{◌≡◌, ℕ, List, [], ◌∷◌}
use Rattle.lines.specs.Perfect.{Sent}
use Rattle.lines.specs.Lossy.{Reading}
use Rattle.lines.specs.Promise.{Promise}
use Rattle.lines.specs.Through.{Through}

abbrev pub Sends : List ℕ → List (Sent ℕ) → List ℕ → Type 0
Sends x out y = y ≡ x

abbrev pub Notes : List ℕ → ℕ → ℕ → ℕ → List (Sent ℕ) → List ℕ → Type 0
Notes x s r p out y = (out ≡ []) × (y ≡ p ∷ x)

-- a frame is what it says
abbrev pub itself : Reading ℕ → Reading ℕ
itself f = f

abbrev pub LinesAreFine : Type 0
LinesAreFine = Promise Sends Notes itself × Through Sends Notes itself

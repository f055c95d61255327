-- The promise of lines, for any protocol above them: lossy lines are perfect lines.
use Rattle.std.specs.Prelude.{◌≡◌, ℕ, ◌⊎◌, List, []}
use Rattle.lines.specs.Runs.{Runs}
use Rattle.lines.specs.Perfect.{Sent, Perfect, PerfectStep}
use Rattle.lines.specs.Lossy.{Reading, Lossy, new_line, Grows, view, Fine, LossyStep}

-- all begins with new lines and no frame on its way
pub record Fresh {X P F : Type 0} (w : Lossy X P F) : Type 0 where
  pub lines : (s r : ℕ) → w.line s r ≡ new_line
  pub net : w.net ≡ []

module _ {X P F : Type 0} (Call : X → List (Sent P) → X → Type 0) (Take : X → ℕ → ℕ → P → List (Sent P) → X → Type 0) (read : F → Reading P) where
  abbrev pub LossySteps : Lossy X P F → Lossy X P F → Type 0
  LossySteps = LossyStep Call Take read

  abbrev pub PerfectSteps : Perfect X P → Perfect X P → Type 0
  PerfectSteps = PerfectStep Call Take

  pub record Promise : Type 0 where
    -- what is fresh is fine, and nothing is under way
    pub begins : (w : Lossy X P F) → Fresh w → Fine read w
    pub empty : (w : Lossy X P F) → Fresh w → view w ≡ record { above = w.above; queue = λ s r. [] }
    -- what is fine stays fine
    pub stays : (w v : Lossy X P F) → Fine read w → LossySteps w v → Fine read v
    -- each step is a step over perfect lines, or is not seen from above
    pub step : (w v : Lossy X P F) → Fine read w → LossySteps w v → PerfectSteps (view w) (view v) ⊎ (view v ≡ view w)
    -- each run is a run over perfect lines
    pub runs : (w v : Lossy X P F) → Fine read w → Runs LossySteps w v → Fine read v × Runs PerfectSteps (view w) (view v)
    -- numbers only grow
    pub grows : (w v : Lossy X P F) → Runs LossySteps w v → (s r : ℕ) → Grows (w.line s r) (v.line s r)

-- Messages come through: where lines are fair, what is posted is taken.
use Rattle.std.specs.Prelude.{◌≡◌, ℕ, suc, ◌<◌, ◌≤◌, ◌⊎◌, List, Contains}
use Rattle.lines.specs.Perfect.{Sent}
use Rattle.lines.specs.Lossy.{Reading, Numbered, Lossy, posted, Fine, LossyStep}

-- At the time m a frame with number k of the line from s to r comes: if that is the next number, it is taken, and not put off.
pub record Comes {X P F : Type 0} (read : F → Reading P) (run : ℕ → Lossy X P F) (s r k m : ℕ) : Type 0 where
  pub frame : F
  pub what : P
  pub there : Contains (run m).net frame
  pub reads : read frame ≡ Numbered s r k what
  pub next : k ≡ suc ((run m).line s r).taken → ((run (suc m)).line s r).taken ≡ k

-- A number that waits is answered for at some later time, or a frame with it comes at some later time.
abbrev pub Fair : {X P F : Type 0} → (F → Reading P) → (ℕ → Lossy X P F) → Type 0
Fair read run = (s r k n : ℕ) → ((run n).line s r).answered < k → k ≤ posted ((run n).line s r) →
    (m : ℕ) × (n ≤ m) × ((k ≤ ((run m).line s r).answered) ⊎ Comes read run s r k m)

module _ {X P F : Type 0} (Call : X → List (Sent P) → X → Type 0) (Take : X → ℕ → ℕ → P → List (Sent P) → X → Type 0) (read : F → Reading P) where
  -- run n is how all is at the time n: at each time a step is made, or nothing is
  pub record Schedule (run : ℕ → Lossy X P F) : Type 0 where
    pub begins : Fine read (run 0)
    pub goes : (n : ℕ) → LossyStep Call Take read (run n) (run (suc n)) ⊎ (run (suc n) ≡ run n)

  pub record Through : Type 0 where
    -- each number that is posted is taken
    pub number : (run : ℕ → Lossy X P F) → Schedule run → Fair read run → (s r k n : ℕ) → k ≤ posted ((run n).line s r) → (m : ℕ) × (n ≤ m) × (k ≤ ((run m).line s r).taken)
    -- all that is under way on a line is taken
    pub whole : (run : ℕ → Lossy X P F) → Schedule run → Fair read run → (s r n : ℕ) → (m : ℕ) × (n ≤ m) × (posted ((run n).line s r) ≤ ((run m).line s r).taken)

-- Runs: steps of any kind, one after another.

pub data Runs {W : Type 0} (Step : W → W → Type 0) : W → W → Type 0 where
  still : {w : W} → Runs Step w w
  onward : {w v u : W} → Runs Step w v → Step v u → Runs Step w u

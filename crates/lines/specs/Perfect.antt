-- Perfect lines: what is sent from one to another comes once, and in the order in which it was sent.
-- The protocol above them is any two relations.
use Rattle.std.specs.Prelude.{◌≡◌, ℕ, cond, ◌&&◌, List, [], ◌∷◌, ◌++◌, ◌==◌}

-- a message that a step of the protocol above sends
pub record Sent (P : Type 0) : Type 0 where
  pub sender : ℕ
  pub receiver : ℕ
  pub what : P

-- a function of pairs, changed at the pair of i and j
abbrev pub at_pair : {A : Type 0} → ℕ → ℕ → (A → A) → (ℕ → ℕ → A) → ℕ → ℕ → A
at_pair i j g f s r = cond (s == i && r == j) (g (f s r)) (f s r)

-- what of all that is sent goes from s to r, in the order in which it is sent
abbrev pub from_to : {P : Type 0} → ℕ → ℕ → List (Sent P) → List P
from_to s r [] = []
from_to s r (m ∷ ms) = cond (s == m.sender && r == m.receiver) (m.what ∷ from_to s r ms) (from_to s r ms)

-- all that a step sends goes to the ends of its queues
abbrev pub queued : {P : Type 0} → List (Sent P) → (ℕ → ℕ → List P) → ℕ → ℕ → List P
queued out q s r = q s r ++ from_to s r out

-- above: the state of everybody together in the protocol above; queue s r: what is under way from s to r, the oldest first
pub record Perfect (X P : Type 0) : Type 0 where
  pub above : X
  pub queue : ℕ → ℕ → List P

-- Call x out y: somebody is called, x becomes y, and out is sent.
-- Take x s r p out y: r takes p from s, x becomes y, and out is sent.
module _ {X P : Type 0} (Call : X → List (Sent P) → X → Type 0) (Take : X → ℕ → ℕ → P → List (Sent P) → X → Type 0) where
  pub data PerfectStep : Perfect X P → Perfect X P → Type 0 where
    called : (w : Perfect X P) (out : List (Sent P)) (y : X) → Call w.above out y →
        PerfectStep w (record { above = y; queue = queued out w.queue })
    -- the oldest message of a queue comes, and is taken
    came : (w : Perfect X P) (s r : ℕ) (p : P) (ps : List P) (out : List (Sent P)) (y : X) → w.queue s r ≡ p ∷ ps → Take w.above s r p out y →
        PerfectStep w (record { above = y; queue = queued out (at_pair s r (λ _. ps) w.queue) })

-- Lossy lines: frames are lost, doubled, delayed and reordered; messages are numbered, kept, sent again and answered for.
use Rattle.std.specs.Prelude.{◌≡◌, ℕ, suc, ◌+◌, ◌-◌, ◌≤◌, ◌⊎◌, List, [], ◌∷◌, ◌++◌, length, drop, All, Contains}
use Rattle.lines.specs.Perfect.{Sent, at_pair, from_to, Perfect}

-- The line from one to another. answered: the number up to which the sender knows that all was taken; waiting: what
-- the sender keeps, with the numbers after that; taken: the last number that the receiver took.
pub record Line (P : Type 0) : Type 0 where
  pub answered : ℕ
  pub waiting : List P
  pub taken : ℕ

-- What a frame says to who reads it: p is number n of the line from s to r; all up to n of the line from s to r was
-- taken; or nothing, as one that is cut short.
pub data Reading (P : Type 0) : Type 0 where
  Numbered : (s r n : ℕ) → P → Reading P
  Answer : (s r n : ℕ) → Reading P
  Nothing : Reading P

-- above: the state of everybody together in the protocol above; line s r: the line from s to r; net: the frames on their way
pub record Lossy (X P F : Type 0) : Type 0 where
  pub above : X
  pub line : ℕ → ℕ → Line P
  pub net : List F

-- one line
module _ {P : Type 0} where
  abbrev pub new_line : Line P
  new_line = record { answered = 0; waiting = []; taken = 0 }

  -- the last number under which the sender posted something
  abbrev pub posted : Line P → ℕ
  posted l = l.answered + length l.waiting

  -- what is under way: kept by the sender, and not taken yet
  abbrev pub under : Line P → List P
  under l = drop (l.taken - l.answered) l.waiting

  abbrev pub keep : List P → Line P → Line P
  keep ps l = record { answered = l.answered; waiting = l.waiting ++ ps; taken = l.taken }

  abbrev pub take_one : Line P → Line P
  take_one l = record { answered = l.answered; waiting = l.waiting; taken = suc l.taken }

  -- all up to n is answered for; an answer that is late cuts nothing
  abbrev pub cut : ℕ → Line P → Line P
  cut n l = record { answered = l.answered + (n - l.answered); waiting = drop (n - l.answered) l.waiting; taken = l.taken }

  -- p waits under the number n
  pub record Waits (n : ℕ) (p : P) (l : Line P) : Type 0 where
    pub front : List P
    pub back : List P
    pub parts : l.waiting ≡ front ++ p ∷ back
    pub number : n ≡ suc (l.answered + length front)

  -- number n is taken, or p waits under it
  abbrev pub Known : ℕ → P → Line P → Type 0
  Known n p l = (n ≤ l.taken) ⊎ Waits n p l

  -- what is answered for was taken, and what was taken was posted
  pub record Ordered (l : Line P) : Type 0 where
    pub low : l.answered ≤ l.taken
    pub high : l.taken ≤ posted l

  -- numbers only grow
  pub record Grows (l m : Line P) : Type 0 where
    pub answered : l.answered ≤ m.answered
    pub taken : l.taken ≤ m.taken
    pub posted : posted l ≤ posted m

-- all lines
module _ {P : Type 0} where
  -- all that a step sends is kept, at the ends of its lines
  abbrev pub kept : List (Sent P) → (ℕ → ℕ → Line P) → ℕ → ℕ → Line P
  kept out f s r = keep (from_to s r out) (f s r)

  -- what may be on its way, however late: a message that waits, under its number, or one with a number that was taken
  -- before; an answer for what was taken; what says nothing
  abbrev pub Sound : (ℕ → ℕ → Line P) → Reading P → Type 0
  Sound f (Numbered s r n p) = Known n p (f s r)
  Sound f (Answer s r n) = n ≤ (f s r).taken
  Sound f Nothing = Unit {0}

-- what lossy lines look like from above
abbrev pub view : {X P F : Type 0} → Lossy X P F → Perfect X P
view w = record { above = w.above; queue = λ s r. under (w.line s r) }

-- the invariant: each line is ordered, and each frame on its way is sound
pub record Fine {X P F : Type 0} (read : F → Reading P) (w : Lossy X P F) : Type 0 where
  pub lines : (s r : ℕ) → Ordered (w.line s r)
  pub frames : All (λ f. Sound w.line (read f)) w.net

-- A frame that comes and is passed over, put off or refused changes nothing, and needs no rule.
module _ {X P F : Type 0} (Call : X → List (Sent P) → X → Type 0) (Take : X → ℕ → ℕ → P → List (Sent P) → X → Type 0) (read : F → Reading P) where
  pub data LossyStep : Lossy X P F → Lossy X P F → Type 0 where
    calls : (w : Lossy X P F) (out : List (Sent P)) (y : X) → Call w.above out y →
        LossyStep w (record { above = y; line = kept out w.line; net = w.net })
    -- frames are lost, doubled, delayed, reordered, sent and sent again: any that are sound may be on their way
    drifts : (w : Lossy X P F) (net : List F) → All (λ f. Sound w.line (read f)) net →
        LossyStep w (record { above = w.above; line = w.line; net = net })
    -- a frame with the next number comes, and is taken; it may come again
    takes : (w : Lossy X P F) (f : F) (s r n : ℕ) (p : P) (out : List (Sent P)) (y : X) → Contains w.net f → read f ≡ Numbered s r n p → n ≡ suc (w.line s r).taken → Take w.above s r p out y →
        LossyStep w (record { above = y; line = kept out (at_pair s r take_one w.line); net = w.net })
    -- an answer comes, and what it answers for is kept no more
    answers : (w : Lossy X P F) (f : F) (s r n : ℕ) → Contains w.net f → read f ≡ Answer s r n →
        LossyStep w (record { above = w.above; line = at_pair s r (cut n) w.line; net = w.net })

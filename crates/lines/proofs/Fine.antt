-- What is fine stays fine, and numbers only grow.
use Rattle.std.proofs.Common.{◌≡◌, ℕ, suc, ◌≤◌, List, Contains, arith}
use Rattle.std.proofs.lemmas.List.Elements.{All-contains, All-weaker}
use Rattle.lines.specs.Perfect.{Sent, at_pair, from_to}
use Rattle.lines.specs.Lossy.{Line, Reading, Numbered, Answer, Nothing, Lossy, keep, kept, take_one, cut, Waits, Grows, Sound, Fine, LossyStep, calls, drifts, takes, answers}
use Rattle.lines.proofs.Pairs.{by_pair}
use Rattle.lines.proofs.Line.{Next, next_not, next_on, next_keep, next_take, next_cut, next_waits, grows_not, grows_on, grows_keep, grows_take, grows_cut}

module _ {P : Type 0} where
  next_sound : (f g : ℕ → ℕ → Line P) → ((s r : ℕ) → Next (f s r) (g s r)) → (x : Reading P) → Sound f x → Sound g x
  next_sound f g t (Numbered s r n p) h = (t s r).known n p h
  next_sound f g t (Answer s r n) h = omega (arith, (t s r).grows.taken)
  next_sound f g t Nothing h = tt

-- what a fine world knows of a frame on its way
module _ {X P F : Type 0} (read : F → Reading P) (w : Lossy X P F) (I : Fine read w) where
  -- a frame on its way is sound
  pub sound : (f : F) (x : Reading P) → Contains w.net f → read f ≡ x → Sound w.line x
  sound f x h e = rw e at (All-contains (λ f. Sound w.line (read f)) w.net f I.frames h)

  -- a frame with the next number is of a message that waits
  pub waits : (f : F) (s r n : ℕ) (p : P) → Contains w.net f → read f ≡ Numbered s r n p → n ≡ suc (w.line s r).taken → Waits n p (w.line s r)
  waits f s r n p h e k = next_waits n p (w.line s r) k (sound f (Numbered s r n p) h e)

  -- lines come to be g
  pub fine_next : (y : X) (g : ℕ → ℕ → Line P) → ((s r : ℕ) → Next (w.line s r) (g s r)) → Fine read (record { above = y; line = g; net = w.net })
  fine_next y g t = record { lines = λ s r. (t s r).ordered; frames = All-weaker (λ f. Sound w.line (read f)) (λ f. Sound g (read f)) (λ f. next_sound w.line g t (read f)) w.net I.frames }

  pub next_take_at : (i j n : ℕ) (p : P) → Waits n p (w.line i j) → n ≡ suc (w.line i j).taken → (s r : ℕ) → Next (w.line s r) (at_pair i j take_one w.line s r)
  next_take_at i j n p a e s r = by_pair (Next (w.line s r)) i j s r take_one w.line (λ es er. rw (es, er) (next_take n p (w.line i j) a e (I.lines i j))) (next_not (w.line s r) (I.lines s r))

  pub next_cut_at : (i j n : ℕ) → n ≤ (w.line i j).taken → (s r : ℕ) → Next (w.line s r) (at_pair i j (cut n) w.line s r)
  next_cut_at i j n h s r = by_pair (Next (w.line s r)) i j s r (cut n) w.line (λ es er. rw (es, er) (next_cut n (w.line i j) h (I.lines i j))) (next_not (w.line s r) (I.lines s r))

module _ {X P F : Type 0} (Call : X → List (Sent P) → X → Type 0) (Take : X → ℕ → ℕ → P → List (Sent P) → X → Type 0) (read : F → Reading P) where
  pub stays_fine : {w v : Lossy X P F} → LossyStep Call Take read w v → Fine read w → Fine read v
  stays_fine (calls w out y c) I = fine_next read w I y (kept out w.line) (λ s r. next_keep (from_to s r out) (w.line s r) (I.lines s r))
  stays_fine (drifts w net h) I = record {
    lines = I.lines;
    frames = h;
  }
  stays_fine (takes w f s r n p out y h e k t) I =
      let g : ℕ → ℕ → Line P = at_pair s r take_one w.line in
      let one = next_take_at read w I s r n p (waits read w I f s r n p h e k) k in
      fine_next read w I y (kept out g) (λ i j. next_on (w.line i j) (g i j) (kept out g i j) (one i j) (next_keep (from_to i j out) (g i j) (one i j).ordered))
  stays_fine (answers w f s r n h e) I = fine_next read w I w.above (at_pair s r (cut n) w.line) (next_cut_at read w I s r n (sound read w I f (Answer s r n) h e))

  pub step_grows : {w v : Lossy X P F} → LossyStep Call Take read w v → (s r : ℕ) → Grows (w.line s r) (v.line s r)
  step_grows (calls w out y c) s r = grows_keep (from_to s r out) (w.line s r)
  step_grows (drifts w net h) s r = grows_not (w.line s r)
  step_grows (takes w f i j n p out y h e k t) s r =
      let g : Line P = at_pair i j take_one w.line s r in
      grows_on (w.line s r) g (keep (from_to s r out) g) (by_pair (Grows (w.line s r)) i j s r take_one w.line (λ _ _. grows_take (w.line s r)) (grows_not (w.line s r))) (grows_keep (from_to s r out) g)
  step_grows (answers w f i j n h e) s r = by_pair (Grows (w.line s r)) i j s r (cut n) w.line (λ _ _. grows_cut n (w.line s r)) (grows_not (w.line s r))

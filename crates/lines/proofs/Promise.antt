-- Lossy lines are perfect lines.
use Rattle.std.proofs.Common.{◌≡◌, ℕ, suc, ◌⊎◌, List, [], ◌++◌, Contains, sym, refl, ap, ◌∙◌, subst, inl, inr, arith}
use Rattle.std.proofs.lemmas.List.Elements.{All-nil}
use Rattle.lines.specs.Runs.{Runs, still, onward}
use Rattle.lines.specs.Perfect.{Sent, at_pair, from_to, queued, Perfect, PerfectStep, called, came}
use Rattle.lines.specs.Lossy.{Line, Reading, Numbered, Answer, Lossy, under, kept, take_one, cut, Ordered, Grows, Sound, view, Fine, LossyStep, calls, drifts, takes, answers}
use Rattle.lines.specs.Promise.{Fresh, Promise}
use Rattle.lines.proofs.Pairs.{by_pair, by_pairs}
use Rattle.lines.proofs.Line.{grows_not, grows_on, under_keep, under_cut, under_next, under_take}
use Rattle.lines.proofs.Fine.{sound, waits, next_take_at, stays_fine, step_grows}

-- worlds over perfect lines are the same if their queues are
pub same_perfect : {X P : Type 0} (x : X) (p q : ℕ → ℕ → List P) → ((s r : ℕ) → p s r ≡ q s r) → ◌≡◌ {A = Perfect X P} (record { above = x; queue = p }) (record { above = x; queue = q })
same_perfect x p q e = λ i. record { above = x; queue = λ s r. e s r i }

-- what is kept at the ends of lines is queued at the ends of what is under way
kept_queued : {P : Type 0} (out : List (Sent P)) (q : ℕ → ℕ → List P) (f : ℕ → ℕ → Line P) → ((s r : ℕ) → Ordered (f s r)) → ((s r : ℕ) → q s r ≡ under (f s r)) → (s r : ℕ) → queued out q s r ≡ under (kept out f s r)
kept_queued out q f o e s r = ap (λ ps. ps ++ from_to s r out) (e s r) ∙ sym (under_keep (from_to s r out) (f s r) (o s r))

-- a fresh world
module _ {X P F : Type 0} (read : F → Reading P) (w : Lossy X P F) (new : Fresh w) where
  pub fresh_fine : Fine read w
  fresh_fine = record { lines = λ s r. rw (new.lines s r) (record { low = omega arith; high = omega arith }); frames = rw new.net (All-nil (λ f. Sound w.line (read f))) }

  pub fresh_view : view w ≡ record { above = w.above; queue = λ s r. [] }
  fresh_view = same_perfect w.above (λ s r. under (w.line s r)) (λ s r. []) (λ s r. ap under (new.lines s r))

-- each kind of step, as it is seen from above
module _ {X P F : Type 0} (Call : X → List (Sent P) → X → Type 0) (Take : X → ℕ → ℕ → P → List (Sent P) → X → Type 0) (read : F → Reading P) (w : Lossy X P F) (I : Fine read w) where
  pub calls_above : (out : List (Sent P)) (y : X) → Call w.above out y → PerfectStep Call Take (view w) (record { above = y; queue = λ s r. under (kept out w.line s r) })
  calls_above out y c =
      subst (PerfectStep Call Take (view w)) (same_perfect y (queued out (view w).queue) (λ s r. under (kept out w.line s r)) (kept_queued out (view w).queue w.line I.lines (λ s r. refl)))
      (called (view w) out y c)

  pub takes_above : (f : F) (s r n : ℕ) (p : P) (out : List (Sent P)) (y : X) → Contains w.net f → read f ≡ Numbered s r n p → n ≡ suc (w.line s r).taken → Take w.above s r p out y → PerfectStep Call Take (view w) (record { above = y; queue = λ i j. under (kept out (at_pair s r take_one w.line) i j) })
  takes_above f s r n p out y h e k t =
      let a = waits read w I f s r n p h e k in
      let g : ℕ → ℕ → Line P = at_pair s r take_one w.line in
      let q : ℕ → ℕ → List P = at_pair s r (λ _. a.back) (view w).queue in
      let tail : (i j : ℕ) → q i j ≡ under (g i j) = λ i j. by_pairs (λ ps l. ps ≡ under l) s r i j (λ _. a.back) (view w).queue take_one w.line (λ es er. rw (es, er) (sym (under_take n p (w.line s r) a k))) refl in
      subst (PerfectStep Call Take (view w)) (same_perfect y (queued out q) (λ i j. under (kept out g i j)) (kept_queued out q g (λ i j. (next_take_at read w I s r n p a k i j).ordered) tail))
      (came (view w) s r p a.back out y (under_next n p (w.line s r) a k) t)

  pub answers_above : (f : F) (s r n : ℕ) → Contains w.net f → read f ≡ Answer s r n → ◌≡◌ {A = Perfect X P} (record { above = w.above; queue = λ i j. under (at_pair s r (cut n) w.line i j) }) (view w)
  answers_above f s r n h e =
      same_perfect w.above (λ i j. under (at_pair s r (cut n) w.line i j)) (view w).queue
      (λ i j. by_pair (λ l. under l ≡ under (w.line i j)) s r i j (cut n) w.line (λ es er. rw (es, er) (under_cut n (w.line s r) (sound read w I f (Answer s r n) h e) (I.lines s r))) refl)

module _ {X P F : Type 0} (Call : X → List (Sent P) → X → Type 0) (Take : X → ℕ → ℕ → P → List (Sent P) → X → Type 0) (read : F → Reading P) where
  pub step_above : {w v : Lossy X P F} → LossyStep Call Take read w v → Fine read w → PerfectStep Call Take (view w) (view v) ⊎ (view v ≡ view w)
  step_above (calls w out y c) I = inl (calls_above Call Take read w I out y c)
  step_above (drifts w net h) I = inr refl
  step_above (takes w f s r n p out y h e k t) I = inl (takes_above Call Take read w I f s r n p out y h e k t)
  step_above (answers w f s r n h e) I = inr (answers_above Call Take read w I f s r n h e)

  pub runs_fine : {w v : Lossy X P F} → Runs (LossyStep Call Take read) w v → Fine read w → Fine read v
  runs_fine still I = I
  runs_fine (onward r s) I = stays_fine Call Take read s (runs_fine r I)

  pub runs_above : {w v : Lossy X P F} → Runs (LossyStep Call Take read) w v → Fine read w → Runs (PerfectStep Call Take) (view w) (view v)
  runs_above still I = still
  runs_above {w} (onward r s) I =
      elim (step_above s (runs_fine r I)) [ inl t ↦ onward (runs_above r I) t | inr e ↦ subst (Runs (PerfectStep Call Take) (view w)) (sym e) (runs_above r I) ]

  pub runs_grow : {w v : Lossy X P F} → Runs (LossyStep Call Take read) w v → (s r : ℕ) → Grows (w.line s r) (v.line s r)
  runs_grow {w} still s r = grows_not (w.line s r)
  runs_grow {w} {v} (onward {v = u} rs t) s r = grows_on (w.line s r) (u.line s r) (v.line s r) (runs_grow rs s r) (step_grows Call Take read t s r)

  pub promise : Promise Call Take read
  promise = record {
    begins = λ w new. fresh_fine read w new;
    empty = λ w new. fresh_view read w new;
    stays = λ w v I s. stays_fine Call Take read s I;
    step = λ w v I s. step_above s I;
    runs = λ w v I r. (runs_fine r I, runs_above r I);
    grows = λ w v r. runs_grow r;
  }

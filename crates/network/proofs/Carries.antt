-- Each step of the network is a step of its mirror, or is not seen from above: by the promise of lines.
use Rattle.std.proofs.Common.{◌≡◌, ℕ, suc, ◌+◌, ◌≤◌, ◌⊎◌, List, [], ◌∷◌, Contains, sym, refl, ap, ◌∙◌, subst, inl, inr, arith}
use Rattle.std.proofs.lemmas.List.Elements.{All-nil}
use Rattle.coins.specs.declared.mail.Mail.{Mail}
use Rattle.runs.specs.System.{World, begin}
use Rattle.runs.specs.System as system
use Rattle.runs.specs.Promise as promise
use Rattle.lines.specs.Runs.{Runs, still, onward}
use Rattle.lines.specs.Perfect.{Sent, at_pair, queued, Perfect, PerfectStep, called, came}
use Rattle.lines.specs.declared.packet.Packet.{Packet}
use Rattle.lines.specs.Lossy.{Numbered, Answer, under, kept, take_one, cut, Fine, calls, drifts, takes, answers}
use Rattle.lines.specs.Lossy.{view as perfect}
use Rattle.lines.proofs.Promise as lines
use Rattle.network.specs.Above.{Crew, Item, Call, Take}
use Rattle.network.specs.Bytes.{reading}
use Rattle.network.specs.Network.{Net, NetStep, opening, NetReach}
use Rattle.network.specs.Promise.{is_give, arrivals, NetUngiven}
use Rattle.network.specs.Promise as net
use Rattle.network.proofs.Mirrors.{world, Mirrors, Moved, called_moved, came_moved}

-- The promise of lines holds for any protocol above them. For the protocol that makes one call, or takes one message,
-- it says what becomes of each queue.
module _ {X P : Type 0} where
  abbrev NoCall : X → List (Sent P) → X → Type 0
  NoCall x out y = ⊥

  abbrev NoTake : X → ℕ → ℕ → P → List (Sent P) → X → Type 0
  NoTake x s r p out y = ⊥

  abbrev OneCall : List (Sent P) → X → List (Sent P) → X → Type 0
  OneCall out x o y = o ≡ out

  abbrev OneTake : ℕ → ℕ → P → List (Sent P) → X → ℕ → ℕ → P → List (Sent P) → X → Type 0
  OneTake s r p out x i j q o y = (i ≡ s) × (j ≡ r) × (q ≡ p) × (o ≡ out)

  call_queues : (out : List (Sent P)) {a z : Perfect X P} → PerfectStep (OneCall out) NoTake a z → (i j : ℕ) → z.queue i j ≡ queued out a.queue i j
  call_queues out (called w o y c) i j = ap (λ (l : List (Sent P)). queued l w.queue i j) c
  call_queues out (came w s r p ps o y e t) i j = absurd t

  -- p was the first of its queue, and ps stood behind it
  pub record Took (s r : ℕ) (p : P) (out : List (Sent P)) (a z : Perfect X P) : Type 0 where
    pub behind : List P
    pub first : a.queue s r ≡ p ∷ behind
    pub queues : (i j : ℕ) → z.queue i j ≡ queued out (at_pair s r (λ _. behind) a.queue) i j

  take_queues : (s r : ℕ) (p : P) (out : List (Sent P)) {a z : Perfect X P} → PerfectStep NoCall (OneTake s r p out) a z → Took s r p out a z
  take_queues s r p out (called w o y c) = absurd c
  take_queues s r p out (came w i j q ps o y e t) =
      record { behind = ps; first = rw (← t.0, ← t.1, ← t.2) e; queues = λ k l. rw (← t.0, ← t.1, ← t.3) }

-- each kind of step, queue by queue
module _ (w : Net) (I : Fine reading w) where
  pub call_is : (out : List (Sent Item)) (y : Crew) (i j : ℕ) → under (kept out w.line i j) ≡ queued out (perfect w).queue i j
  call_is out y = call_queues out (lines.calls_above (OneCall out) NoTake reading w I out y refl)

  pub take_is : (f : Packet) (s r n : ℕ) (p : Item) (out : List (Sent Item)) (y : Crew) → Contains w.net f → reading f ≡ Numbered s r n p → n ≡ suc (w.line s r).taken →
      Took s r p out (perfect w) (record { above = y; queue = λ i j. under (kept out (at_pair s r take_one w.line) i j) })
  take_is f s r n p out y h e k = take_queues s r p out (lines.takes_above NoCall (OneTake s r p out) reading w I f s r n p out y h e k (refl, refl, refl, refl))

  pub answer_above : (f : Packet) (s r n : ℕ) → Contains w.net f → reading f ≡ Answer s r n →
      ◌≡◌ {A = Perfect Crew Item} (record { above = w.above; queue = λ i j. under (at_pair s r (cut n) w.line i j) }) (perfect w)
  answer_above f s r n h e = lines.answers_above Call Take reading w I f s r n h e

  pub answer_is : (f : Packet) (s r n : ℕ) → Contains w.net f → reading f ≡ Answer s r n → (i j : ℕ) → under (at_pair s r (cut n) w.line i j) ≡ under (w.line i j)
  answer_is f s r n h e i j = ap (λ (x : Perfect Crew Item). x.queue i j) (answer_above f s r n h e)

-- a step, as the mirror goes
abbrev pub Follows : {w v : Net} → NetStep w v → List Mail → Type 0
Follows {w} {v} s ms = Moved (perfect w) (perfect v) ms (λ letter. is_give letter s) (λ letter. arrivals letter s) ⊎ ((perfect v ≡ perfect w) × ((letter : ℕ) → arrivals letter s ≡ 0))

pub follows : {w v : Net} (s : NetStep w v) → Fine reading w → (ms : List Mail) → Mirrors (perfect w) ms → Follows s ms
follows (calls w out y c) I ms M = inl (called_moved (perfect w) ms (λ i j. under (kept out w.line i j)) y out M c (call_is w I out y))
follows (drifts w net h) I ms M = inr (refl, λ _. refl)
follows (takes w f s r n p out y h e k t) I ms M =
    let T = take_is w I f s r n p out y h e k in
    inl (came_moved (perfect w) (λ i j. under (kept out (at_pair s r take_one w.line) i j)) y s r p T.behind out t T.queues ms M T.first)
follows (answers w f s r n h e) I ms M = inr (answer_above w I f s r n h e, λ _. refl)

-- what is not seen from above leaves the mirror as it is
pub unseen : {a z : Perfect Crew Item} {ms : List Mail} → z ≡ a → Mirrors a ms → Mirrors z ms
unseen {ms = ms} e M = subst (λ x. Mirrors x ms) (sym e) M

same_world : {a z : Perfect Crew Item} (ms : List Mail) → z ≡ a → world a.above ms ≡ world z.above ms
same_world ms e = ap (λ (x : Perfect Crew Item). world x.above ms) (sym e)

-- the mirror of a run
pub record Mirrored (w v : Net) (ms : List Mail) : Type 0 where
  pub posts : List Mail
  pub mirrors : Mirrors (perfect v) posts
  pub runs : system.Runs (world w.above ms) (world v.above posts)

pub mirrored : {w v : Net} → Runs NetStep w v → Fine reading w → (ms : List Mail) → Mirrors (perfect w) ms → Mirrored w v ms
mirrored still I ms M = record { posts = ms; mirrors = M; runs = system.still }
mirrored {w} {v} (onward r s) I ms M =
    let B = mirrored r I ms M in
    elim (follows s (lines.runs_fine Call Take reading r I) B.posts B.mirrors) [
      | inl F ↦ record { posts = F.after; mirrors = F.mirrors; runs = system.onward B.runs F.step }
      | inr e ↦ record { posts = B.posts; mirrors = unseen e.0 B.mirrors; runs = subst (λ (u : World). system.Runs (world w.above ms) u) (same_world B.posts e.0) B.runs }
    ]

-- the mirror of a run without a give of a letter
pub record Ungave (letter : ℕ) (w v : Net) (ms : List Mail) (n : ℕ) : Type 0 where
  pub posts : List Mail
  pub mirrors : Mirrors (perfect v) posts
  pub fine : Fine reading v
  pub run : promise.Ungiven letter (world w.above ms) (world v.above posts) n

pub ungave : {letter : ℕ} {w v : Net} {n : ℕ} → NetUngiven letter w v n → Fine reading w → (ms : List Mail) → Mirrors (perfect w) ms → Ungave letter w v ms n
ungave net.still I ms M = record { posts = ms; mirrors = M; fine = I; run = promise.still }
ungave {letter} {w} {v} (net.onward {v = m} {n = n} r s g) I ms M =
    let B = ungave r I ms M in
    let I' = (lines.promise Call Take reading).stays m v B.fine s in
    elim (follows s B.fine B.posts B.mirrors) [
      | inl F ↦ record {
        posts = F.after;
        mirrors = F.mirrors;
        fine = I';
        run = subst (λ (k : ℕ). promise.Ungiven letter (world w.above ms) (world v.above F.after) (n + k)) (F.comes_is letter) (promise.onward B.run F.step (F.gives_is letter ∙ g));
      }
      | inr e ↦ record {
        posts = B.posts;
        mirrors = unseen e.0 B.mirrors;
        fine = I';
        run = subst (λ (u : World). promise.Ungiven letter (world w.above ms) u (n + arrivals letter s)) (same_world B.posts e.0)
            (subst (λ (k : ℕ). promise.Ungiven letter (world w.above ms) (world m.above B.posts) k) (omega (arith, e.1 letter)) B.run);
      }
    ]

-- the opening
opening_fine : (n : ℕ) → Fine reading (opening n)
opening_fine n = (lines.promise Call Take reading).begins (opening n) (record { lines = λ s r. refl; net = refl })

opening_mirrors : (n : ℕ) → n ≤ 256 → Mirrors (perfect (opening n)) []
opening_mirrors n few = record { reached = begin n few; lanes = λ i j. refl; senders = All-nil _ }

-- every reached network is fine, and has a mirror
module _ {w : Net} (R : NetReach w) where
  pub net_fine : Fine reading w
  net_fine = lines.runs_fine Call Take reading R.run (opening_fine R.size)

  from_opening : Mirrored (opening R.size) w []
  from_opening = mirrored R.run (opening_fine R.size) [] (opening_mirrors R.size R.few)

  pub posts : List Mail
  posts = from_opening.posts

  pub net_mirrors : Mirrors (perfect w) posts
  unfolding posts
  net_mirrors = from_opening.mirrors

pub net_then : {w v : Net} → NetReach w → NetStep w v → NetReach v
net_then R s = record { size = R.size; few = R.few; run = onward R.run s }

pub net_on : {w v : Net} → NetReach w → Runs NetStep w v → NetReach v
net_on R still = R
net_on R (onward r s) = net_then (net_on R r) s

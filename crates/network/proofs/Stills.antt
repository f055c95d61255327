-- What is quiet, and is not given: at each step there is less to come, or the helpers' states of the letter stay.
use Rattle.std.proofs.Common.{◌≡◌, ℕ, ◌+◌, ◌<◌, ◌≤◌, false, ◌⊎◌, [], ◌∷◌, ◌++◌, refl, ap, ◌∙◌, inl, inr, arith}
use Rattle.std.proofs.lemmas.List.{append-nil}
use Rattle.helper_coins.specs.Holdings.{idle}
use Rattle.runs.specs.System.{World, Step, Reach}
use Rattle.runs.specs.Letter.{View, view, holding_at, Quiet, weigh, delay, mailed, to_come}
use Rattle.runs.specs.Moves.{Move, gives, takes, shares, asks, rests, flushes, keeps, declines, hears, grants, denies, returns, says, skips, is_giving, coming}
use Rattle.runs.specs.Promise as promise
use Rattle.runs.proofs.Counts.{clash, mailed_split, delayed_set}
use Rattle.runs.proofs.Quiets.{quiet_on}
use Rattle.runs.proofs.Always.{always}
use Rattle.runs.proofs.Theorems.{see}
use Rattle.network.specs.Network.{Net, NetStep, NetReach, seen}
use Rattle.network.specs.Promise.{is_give, arrivals, still, onward}
use Rattle.network.proofs.Carries.{follows, net_fine, posts, net_mirrors}
use Rattle.network.proofs.Seen.{alike}
use Rattle.network.proofs.Alike.{alike_back, alike_to_come, alike_quiet}
use Rattle.network.proofs.Theorems.{mirror_alike, seen_same, net_quiet_goes_on}

abbrev Less : View → View → Type 0
Less w v = (to_come v < to_come w) ⊎ (v.holdings ≡ w.holdings)

-- a message that comes leaves less to come
came_less : {w v : View} (s : Move w v) → is_giving s ≡ false → Quiet w → 1 ≤ coming s → Less w v
came_less s g q one = inl (omega (arith, (quiet_on s g q).1))

less : {w v : View} (s : Move w v) → is_giving s ≡ false → Quiet w → Less w v
less (gives v m nd lt h) g q = clash refl g
less (takes v m c a b e h) g q = came_less (takes v m c a b e h) g q (omega arith)
less (shares v m i lt w le h) g q = clash w (q.nobody i)
less (asks v m i w h) g q = clash w (q.nobody i)
less (rests v m i w h) g q = clash w (q.nobody i)
less (flushes v m i w h) g q =
    let sent : mailed (v.post ++ m ∷ []) ≡ weigh m.kind + mailed v.post = mailed_split m v.post [] ∙ ap (λ ms. weigh m.kind + mailed ms) (append-nil v.post) in
    let one : weigh m.kind ≡ 1 = ap weigh h.3 in
    let two : delay (holding_at v.holdings i) ≡ 2 = rw w in
    inl (omega (arith, delayed_set v.holdings i idle h.0))
less (keeps v m c a b e h) g q = came_less (keeps v m c a b e h) g q (omega arith)
less (declines v m n c a b e h w k) g q = came_less (declines v m n c a b e h w k) g q (omega arith)
less (hears v m a b e h) g q = came_less (hears v m a b e h) g q (omega arith)
less (grants v m n a b e h l lt to k) g q = came_less (grants v m n a b e h l lt to k) g q (omega arith)
less (denies v m n a b e h to k) g q = came_less (denies v m n a b e h to k) g q (omega arith)
less (returns v m c a b e to k) g q = came_less (returns v m c a b e to k) g q (omega arith)
less (says v l e) g q = inr refl
less (skips v l) g q = inr refl

step_less : {w v : World} (s : Step w v) → Reach w → (n : ℕ) → 1 ≤ n → promise.is_give n s ≡ false → Quiet (view n w) → Less (view n w) (view n v)
step_less s R n pos g q = elim (see s (always R) n pos) [ inl t ↦ less t.move (t.giving_is ∙ g) q | inr e ↦ inr (ap (λ (u : View). u.holdings) e.0) ]

-- the same over lossy lines
module _ (letter : ℕ) (pos : 1 ≤ letter) where
  pub net_less : {w v : Net} → NetReach w → (s : NetStep w v) → is_give letter s ≡ false → Quiet (view letter (seen w)) → Less (view letter (seen w)) (view letter (seen v))
  net_less {w} {v} R s g Q =
      elim (follows s (net_fine R) (posts R) (net_mirrors R)) [
        | inl F ↦
            let A = mirror_alike R in
            let B = alike v F.after F.mirrors in
            elim (step_less F.step (net_mirrors R).reached letter pos (F.gives_is letter ∙ g) (alike_quiet (seen w) _ (alike_back A) letter Q)) [
              | inl lt ↦ inl (omega (arith, lt, alike_to_come _ (seen w) A letter, alike_to_come _ (seen v) B letter))
              | inr e ↦ inr e
            ]
        | inr e ↦ inr (ap (λ (u : World). (view letter u).holdings) (seen_same w v e.0))
      ]

  pub net_quiet_next : {w v : Net} → NetReach w → (s : NetStep w v) → is_give letter s ≡ false → Quiet (view letter (seen w)) →
      Quiet (view letter (seen v)) × (arrivals letter s + to_come (view letter (seen v)) ≤ to_come (view letter (seen w)))
  net_quiet_next {w} {v} R s g Q = let G = net_quiet_goes_on w v (0 + arrivals letter s) letter pos R Q (onward still s g) in (G.0, omega (arith, G.1))

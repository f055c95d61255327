-- Messages come through, so what is quiet is said.
use Rattle.std.proofs.Common.{◌≡◌, ℕ, zero, suc, ◌+◌, ◌-◌, ◌<◌, ◌≤◌, Bool, true, false, ◌⊎◌, List, [], ◌∷◌, sym, refl, ap, ◌∙◌, subst, inl, inr, arith}
use Rattle.coins.specs.declared.mail.Mail.{Mail}
use Rattle.helper_coins.specs.declared.holding.Holding.{Holding}
use Rattle.helper_coins.specs.Holdings.{waits}
use Rattle.runs.specs.Letter.{view, holding_at, Quiet, to_come}
use Rattle.runs.proofs.Counts.{clash}
use Rattle.lines.specs.Through.{Fair, Schedule}
use Rattle.lines.proofs.Through.{through}
use Rattle.network.specs.Above.{Call, Take}
use Rattle.network.specs.Bytes.{reading}
use Rattle.network.specs.Network.{Net, NetStep, NetReach, seen}
use Rattle.network.specs.Promise.{is_give, Sayable, SentNowAndThen, NotGiven, NotGivenFrom, NetComesToBeSaid}
use Rattle.network.proofs.Carries.{net_fine, net_then}
use Rattle.network.proofs.Theorems.{net_quiet_is_said}
use Rattle.network.proofs.Stills.{net_less, net_quiet_next}
use Rattle.network.proofs.Tracks.{Waiting, waits_on, posted_above, not_above, Found, found}

-- some helper's coins wait for a place, or nobody's do
some_wait : (hs : List Holding) → ((i : ℕ) × (waits (holding_at hs i) ≡ true)) ⊎ ((i : ℕ) → waits (holding_at hs i) ≡ false)
some_wait [] = inr (λ i. refl)
some_wait (h ∷ hs) = go (waits h) refl (some_wait hs)
  where
    go : (b : Bool) → waits h ≡ b → ((i : ℕ) × (waits (holding_at hs i) ≡ true)) ⊎ ((i : ℕ) → waits (holding_at hs i) ≡ false) →
        ((i : ℕ) × (waits (holding_at (h ∷ hs) i) ≡ true)) ⊎ ((i : ℕ) → waits (holding_at (h ∷ hs) i) ≡ false)
    go true t rest = inl (0, t)
    go false t (inl w) = inl (suc w.0, w.1)
    go false t (inr none) = inr (elim [ zero ↦ t | suc i ↦ none i ])

-- d steps after t
after : ℕ → ℕ → ℕ
after t zero = t
after t (suc d) = suc (after t d)

after_is : (t d : ℕ) → after t d ≡ d + t
unfolding after
after_is t zero = omega arith
after_is t (suc d) = omega (arith, after_is t d)

module _ (run : ℕ → Net) (plan : Schedule Call Take reading run) (R : NetReach (run 0)) where
  reached : (t : ℕ) → NetReach (run t)
  reached zero = R
  reached (suc t) = elim (plan.goes t) [ inl s ↦ net_then (reached t) s | inr e ↦ subst NetReach (sym e) (reached t) ]

  module _ (letter : ℕ) (pos : 1 ≤ letter) (n : ℕ) (ungiven : NotGivenFrom letter n run plan) where
    abbrev Still : ℕ → Type 0
    Still t = Quiet (view letter (seen (run t)))

    abbrev left : Net → ℕ
    left w = to_come (view letter (seen w))

    -- what is so at the time t stays so, or less is to come
    abbrev Stays : (Net → Type 0) → Type 0
    Stays P = (w v : Net) → NetReach w → (s : NetStep w v) → is_give letter s ≡ false → Quiet (view letter (seen w)) → P w → (left v < left w) ⊎ P v

    record Later (P : Net → Type 0) (t m : ℕ) : Type 0 where
      quiet : Still m
      low : left (run m) ≤ left (run t)
      either : (left (run m) < left (run t)) ⊎ P (run m)

    next : (P : Net → Type 0) → Stays P → (t m : ℕ) → n ≤ m → Later P t m → Later P t (suc m)
    next P stays t m h L = go (plan.goes m) (ungiven m h)
      where
        go : (g : NetStep (run m) (run (suc m)) ⊎ (run (suc m) ≡ run m)) → NotGiven letter g → Later P t (suc m)
        go (inl s) ng =
            let Q = net_quiet_next letter pos (reached m) s ng L.quiet in
            record {
              quiet = Q.0;
              low = omega (arith, Q.1, L.low);
              either = elim L.either [
                | inl lt ↦ inl (omega (arith, lt, Q.1))
                | inr p ↦ elim (stays (run m) (run (suc m)) (reached m) s ng L.quiet p) [ inl lt ↦ inl (omega (arith, lt, L.low)) | inr q ↦ inr q ]
              ];
            }
        go (inr e) ng = record { quiet = rw e L.quiet; low = rw e L.low; either = rw e L.either }

    later_by : (P : Net → Type 0) → Stays P → (t : ℕ) → n ≤ t → Still t → P (run t) → (d : ℕ) → Later P t (after t d)
    unfolding after
    later_by P stays t h Q p zero = record { quiet = Q; low = omega arith; either = inr p }
    later_by P stays t h Q p (suc d) = next P stays t (after t d) (omega (arith, after_is t d)) (later_by P stays t h Q p d)

    later : (P : Net → Type 0) → Stays P → (t m : ℕ) → n ≤ t → t ≤ m → Still t → P (run t) → Later P t m
    later P stays t m h le Q p = subst (Later P t) (omega (arith, after_is t (m - t))) (later_by P stays t h Q p (m - t))

    -- a message that is under way is taken, and then there is less to come
    waiting_stays : (s r k : ℕ) → Stays (Waiting letter s r k)
    waiting_stays s r k w v N t g Q W =
        elim (waits_on letter s r k t (net_fine N) W) [ inl one ↦ inl (omega (arith, one, (net_quiet_next letter pos N t g Q).1)) | inr V ↦ inr V ]

    -- helpers' states of the letter stay until there is less to come
    abbrev Held : List Holding → Net → Type 0
    Held hs w = (view letter (seen w)).holdings ≡ hs

    held_stays : (hs : List Holding) → Stays (Held hs)
    held_stays hs w v N s g Q e = elim (net_less letter pos N s g Q) [ inl lt ↦ inl lt | inr same ↦ inr (same ∙ e) ]

    -- less is to come at some later time
    abbrev Sooner : ℕ → Type 0
    Sooner t = (m : ℕ) × (t ≤ m) × Still m × (left (run m) < left (run t))

    message_comes : Fair reading run → (t : ℕ) → n ≤ t → Still t → Found letter (run t) → Sooner t
    message_comes fair t h Q F =
        let B = (through Call Take reading).whole run plan fair F.s F.r t in
        let L = later (Waiting letter F.s F.r F.k) (waiting_stays F.s F.r F.k) t B.0 h B.1 Q F.waiting in
        elim L.either [
          | inl lt ↦ (B.0, B.1, L.quiet, lt)
          | inr W ↦ absurd (omega (arith, B.2, posted_above letter F.s F.r F.k (run t) (net_fine (reached t)) F.waiting, not_above letter F.s F.r F.k (run B.0) W))
        ]

    coins_go : SentNowAndThen letter run → (t : ℕ) → n ≤ t → Still t → (i : ℕ) → waits (holding_at (view letter (seen (run t))).holdings i) ≡ true → Sooner t
    coins_go often t h Q i w =
        let B = often i t w in
        let hs : List Holding = (view letter (seen (run t))).holdings in
        let L = later (Held hs) (held_stays hs) t B.0 h B.1 Q refl in
        elim L.either [
          | inl lt ↦ (B.0, B.1, L.quiet, lt)
          | inr e ↦ clash w (ap (λ (l : List Holding). waits (holding_at l i)) (sym e) ∙ B.2)
        ]

pub comes_to_be_said : NetComesToBeSaid
comes_to_be_said run plan fair R letter pos often n ungiven quiet = ends (to_come (view letter.number (seen (run n)))) n (omega arith) quiet (omega arith)
  where
    goes : (t : ℕ) → n ≤ t → Quiet (view letter.number (seen (run t))) → Sayable letter (seen (run t)) ⊎ Sooner run plan R letter.number pos n ungiven t
    goes t h Q = by (view letter.number (seen (run t))).post refl
      where
        by : (ms : List Mail) → (view letter.number (seen (run t))).post ≡ ms → Sayable letter (seen (run t)) ⊎ Sooner run plan R letter.number pos n ungiven t
        by (m ∷ ms) e = inr (message_comes run plan R letter.number pos n ungiven fair t h Q (found (reached run plan R t) letter.number m ms e))
        by [] e =
            elim (some_wait (view letter.number (seen (run t))).holdings) [
              | inl w ↦ inr (coins_go run plan R letter.number pos n ungiven often t h Q w.0 w.1)
              | inr none ↦ inl (net_quiet_is_said (run t) letter pos (reached run plan R t) Q e none)
            ]

    ends : (d t : ℕ) → n ≤ t → Quiet (view letter.number (seen (run t))) → to_come (view letter.number (seen (run t))) ≤ d → (m : ℕ) × (n ≤ m) × Sayable letter (seen (run m))
    ends zero t h Q le = elim (goes t h Q) [ inl S ↦ (t, h, S) | inr G ↦ absurd (omega (arith, G.3)) ]
    ends (suc d) t h Q le = elim (goes t h Q) [ inl S ↦ (t, h, S) | inr G ↦ ends d G.0 (omega (arith, G.1)) G.2 (omega (arith, G.3)) ]

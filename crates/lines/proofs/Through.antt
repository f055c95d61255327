-- Where lines are fair, what is posted is taken.
use Rattle.std.proofs.Common.{◌≡◌, ℕ, zero, suc, ◌+◌, ◌<◌, ◌≤◌, List, inl, inr, arith}
use Rattle.std.proofs.lemmas.Bool.Decides.{leb_tells, eqb_tells}
use Rattle.lines.specs.Perfect.{Sent}
use Rattle.lines.specs.Lossy.{Reading, Lossy, posted, Grows, Fine}
use Rattle.lines.specs.Through.{Comes, Fair, Schedule, Through}
use Rattle.lines.proofs.Line.{grows_not, grows_on}
use Rattle.lines.proofs.Fine.{stays_fine, step_grows}

module _ {X P F : Type 0} (Call : X → List (Sent P) → X → Type 0) (Take : X → ℕ → ℕ → P → List (Sent P) → X → Type 0) (read : F → Reading P) (run : ℕ → Lossy X P F) (plan : Schedule Call Take read run) where
  pub always_fine : (n : ℕ) → Fine read (run n)
  always_fine zero = plan.begins
  always_fine (suc n) = elim (plan.goes n) [ inl s ↦ stays_fine Call Take read s (always_fine n) | inr e ↦ rw e (always_fine n) ]

  next_grows : (n s r : ℕ) → Grows ((run n).line s r) ((run (suc n)).line s r)
  next_grows n s r = elim (plan.goes n) [ inl t ↦ step_grows Call Take read t s r | inr e ↦ rw e (grows_not ((run n).line s r)) ]

  pub later_grows : (m n : ℕ) → n ≤ m → (s r : ℕ) → Grows ((run n).line s r) ((run m).line s r)
  later_grows zero n h s r = let z : n ≡ 0 = omega arith in rw z (grows_not ((run 0).line s r))
  later_grows (suc m) n h s r =
      elim (leb_tells n m) [
        | inl k ↦ grows_on ((run n).line s r) ((run m).line s r) ((run (suc m)).line s r) (later_grows m n k.1 s r) (next_grows m s r)
        | inr k ↦ let z : n ≡ suc m = omega (arith, k.1) in rw z (grows_not ((run (suc m)).line s r))
      ]

  -- a frame with the number that was next at the time n comes at the time m: that number is taken then, or was by then
  come_then : (s r n m : ℕ) → n ≤ m → Comes read run s r (suc ((run n).line s r).taken) m → (k : ℕ) × (n ≤ k) × (((run n).line s r).taken < ((run k).line s r).taken)
  come_then s r n m h c =
      elim (eqb_tells ((run n).line s r).taken ((run m).line s r).taken) [
        | inl e ↦ let t : ((run (suc m)).line s r).taken ≡ suc ((run n).line s r).taken = c.next (omega (arith, e.1)) in (suc m, omega arith, omega arith)
        | inr e ↦ (m, h, omega (arith, e.1, (later_grows m n h s r).taken))
      ]

  -- the next number, if it is posted, is taken at some later time
  one_more : Fair read run → (s r n : ℕ) → ((run n).line s r).taken < posted ((run n).line s r) → (m : ℕ) × (n ≤ m) × (((run n).line s r).taken < ((run m).line s r).taken)
  one_more fair s r n h =
      let f = fair s r (suc ((run n).line s r).taken) n (omega (arith, ((always_fine n).lines s r).low)) h in
      elim f.2 [ inl k ↦ (f.0, f.1, omega (arith, k, ((always_fine f.0).lines s r).low)) | inr c ↦ come_then s r n f.0 f.1 c ]

  -- d: how far k is at most above what was taken
  reaches : Fair read run → (s r k d n : ℕ) → k ≤ ((run n).line s r).taken + d → k ≤ posted ((run n).line s r) → (m : ℕ) × (n ≤ m) × (k ≤ ((run m).line s r).taken)
  reaches fair s r k zero n near h = (n, omega arith, omega arith)
  reaches fair s r k (suc d) n near h =
      elim (leb_tells k ((run n).line s r).taken) [
        | inl e ↦ (n, omega arith, e.1)
        | inr e ↦
            let o = one_more fair s r n (omega (arith, e.1)) in
            let t = reaches fair s r k d o.0 (omega (arith, o.2)) (omega (arith, (later_grows o.0 n o.1 s r).posted)) in
            (t.0, omega (arith, o.1, t.1), t.2)
      ]

  pub number_through : Fair read run → (s r k n : ℕ) → k ≤ posted ((run n).line s r) → (m : ℕ) × (n ≤ m) × (k ≤ ((run m).line s r).taken)
  number_through fair s r k n h = reaches fair s r k k n (omega arith) h

module _ {X P F : Type 0} (Call : X → List (Sent P) → X → Type 0) (Take : X → ℕ → ℕ → P → List (Sent P) → X → Type 0) (read : F → Reading P) where
  pub through : Through Call Take read
  through = record {
    number = λ run plan fair s r k n h. number_through Call Take read run plan fair s r k n h;
    whole = λ run plan fair s r n. number_through Call Take read run plan fair s r (posted ((run n).line s r)) n (omega arith);
  }

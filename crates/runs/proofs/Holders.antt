-- A helper's table: what a write at one place does to each letter.
use Rattle.std.proofs.Common.{◌≡◌, ℕ, ◌<◌, ◌≤◌, ltb, List, length, get_or, set, replicate, sym, refl, ap, ◌∙◌, subst, inl, inr, arith, ltb-false, ltb-true}
use Rattle.std.proofs.lemmas.List.{length-set, get_or-set_same, get_or-set_other, get_or_past, set-get_or, get_or-replicate}
use Rattle.std.proofs.lemmas.Bool.Decides.{eqb_tells}
use Rattle.helper_coins.specs.declared.holding.Holding.{Holding}
use Rattle.helper_coins.specs.declared.helper.Helper.{Helper}
use Rattle.coins.specs.Letters.{seek, place}
use Rattle.helper_coins.specs.Holdings.{idle}
use Rattle.helper_coins.specs.Helpers.{new_helper, at, holding_of, slot_for, write, store}
use Rattle.runs.proofs.Tables.{by_test, seek_le, seek_at, seek_out, seek_set_other, Apart, seek_set_gone, Fits, seek_fits, apart_set, apart_fits, fits_other, place_seek, placed}

-- A table in order. A place is a letter's only while there are coins in it.
pub record Tidy (i : ℕ) (h : Helper) : Type 0 where
  pub named : h.me.number ≡ i
  pub letters : length h.letters ≡ 64
  pub holdings : length h.holdings ≡ 64
  pub apart : Apart h.letters
  pub used : (k : ℕ) → k < 64 → 1 ≤ get_or h.letters k 0 → 1 ≤ (at h.holdings k).coins
  pub free : (k : ℕ) → k < 64 → get_or h.letters k 0 ≡ 0 → (at h.holdings k).coins ≡ 0

-- a letter's state stands at its place
pub held_at : (i : ℕ) (h : Helper) (n : ℕ) → Tidy i h → 1 ≤ n → holding_of h n ≡ at h.holdings (seek h.letters n)
held_at i h n T pos =
    by_test (λ x. x ≡ at h.holdings (seek h.letters n)) (ltb (place h.letters n) 64) (at h.holdings (place h.letters n)) idle
    (λ _. ap (λ (k : ℕ). at h.holdings k) (place_seek h.letters n pos))
    (λ e. sym (get_or_past h.holdings (seek h.letters n) idle (omega (arith, ltb-false _ _ e, place_seek h.letters n pos, T.holdings))))

-- What becomes of a helper when its state of one letter comes to x.
pub record Changed (i n : ℕ) (x : Holding) (h g : Helper) : Type 0 where
  pub tidy : Tidy i g
  pub here : holding_of g n ≡ x
  pub others : (m : ℕ) → 1 ≤ m → (m ≡ n → ⊥) → holding_of g m ≡ holding_of h m

module _ (i : ℕ) (h : Helper) (T : Tidy i h) where
  in_letters : (k : ℕ) → k < 64 → k < length h.letters
  in_letters k l = omega (arith, T.letters)

  in_holdings : (k : ℕ) → k < 64 → k < length h.holdings
  in_holdings k l = omega (arith, T.holdings)

  -- a place that is not the written one is as it was
  elsewhere : (k n m : ℕ) (x : Holding) → k < 64 → 1 ≤ m → (get_or h.letters k 0 ≡ m → ⊥) → (n ≡ m → ⊥) → Tidy i (write h k n x) → holding_of (write h k n x) m ≡ holding_of h m
  elsewhere k n m x l pos was is W =
      let s = seek_set_other h.letters k n m was is in
      let ne : seek h.letters m ≡ k → ⊥ = λ q. was (subst (λ (j : ℕ). get_or h.letters j 0 ≡ m) q (seek_at h.letters m (omega (arith, q, in_letters k l)))) in
      held_at i (write h k n x) m W pos ∙ ap (λ (j : ℕ). at (set h.holdings k x) j) s ∙ get_or-set_other h.holdings k (seek h.letters m) x idle ne ∙ sym (held_at i h m T pos)

  -- after a write each place is in order, if the written one is
  in_order : (k n : ℕ) (x : Holding) → k < 64 → Apart (set h.letters k n) → (1 ≤ n → 1 ≤ x.coins) → (n ≡ 0 → x.coins ≡ 0) → Tidy i (write h k n x)
  in_order k n x l A u f =
      record {
        named = T.named;
        letters = length-set h.letters k n ∙ T.letters;
        holdings = length-set h.holdings k x ∙ T.holdings;
        apart = A;
        used = λ j lj p. elim (eqb_tells j k) [
          | inl s ↦ omega (arith, u (omega (arith, letter_here j s.1)), ap (λ (y : Holding). y.coins) (holding_here j s.1))
          | inr s ↦ omega (arith, T.used j lj (omega (arith, get_or-set_other h.letters k j n 0 s.1)), ap (λ (y : Holding). y.coins) (get_or-set_other h.holdings k j x idle s.1))
        ];
        free = λ j lj p. elim (eqb_tells j k) [
          | inl s ↦ omega (arith, f (omega (arith, letter_here j s.1)), ap (λ (y : Holding). y.coins) (holding_here j s.1))
          | inr s ↦ omega (arith, T.free j lj (omega (arith, get_or-set_other h.letters k j n 0 s.1)), ap (λ (y : Holding). y.coins) (get_or-set_other h.holdings k j x idle s.1))
        ];
      }
    where
      letter_here : (j : ℕ) → j ≡ k → get_or (set h.letters k n) j 0 ≡ n
      letter_here j q = ap (λ (a : ℕ). get_or (set h.letters k n) a 0) q ∙ get_or-set_same h.letters k n 0 (in_letters k l)

      holding_here : (j : ℕ) → j ≡ k → at (set h.holdings k x) j ≡ x
      holding_here j q = ap (λ (a : ℕ). at (set h.holdings k x) a) q ∙ get_or-set_same h.holdings k x idle (in_holdings k l)

  -- a letter is written with coins
  pub written : (k n : ℕ) (x : Holding) → k < 64 → 1 ≤ n → Fits h.letters k n → 1 ≤ x.coins → Changed i n x h (write h k n x)
  written k n x l pos F some =
      record {
        tidy = W;
        here = held_at i (write h k n x) n W pos ∙ ap (λ (j : ℕ). at (set h.holdings k x) j) (seek_fits h.letters k n T.apart (in_letters k l) pos F) ∙ get_or-set_same h.holdings k x idle (in_holdings k l);
        others = λ m p ne. elsewhere k n m x l p (fits_other h.letters k n m F p ne) (λ q. ne (sym q)) W;
      }
    where
      W : Tidy i (write h k n x)
      W = in_order k n x l (apart_fits h.letters k n T.apart (in_letters k l) F) (λ _. some) (λ z. absurd (omega arith))

  -- a letter is cleared
  pub cleared : (k n : ℕ) → k < 64 → 1 ≤ n → get_or h.letters k 0 ≡ n → Changed i n idle h (write h k 0 idle)
  cleared k n l pos e =
      record {
        tidy = W;
        here = held_at i (write h k 0 idle) n W pos ∙ ap (λ (j : ℕ). at (set h.holdings k idle) j) (seek_set_gone h.letters k 0 n T.apart (in_letters k l) e pos (λ q. omega arith)) ∙ get_or_past (set h.holdings k idle) (length h.letters) idle (omega (arith, length-set h.holdings k idle, T.letters, T.holdings));
        others = λ m p ne. elsewhere k 0 m idle l p (λ q. ne (sym q ∙ e)) (λ q. omega arith) W;
      }
    where
      W : Tidy i (write h k 0 idle)
      W = in_order k 0 idle l (apart_set h.letters k 0 T.apart (in_letters k l) (λ j lj ne q p. omega arith)) (λ z. absurd (omega arith)) (λ _. refl)

  -- nothing changes
  pub unchanged : (n : ℕ) → Changed i n (holding_of h n) h h
  unchanged n = record { tidy = T; here = refl; others = λ m p ne. refl }

  -- a letter that has a place
  pub own : (n : ℕ) → place h.letters n < 64 → get_or h.letters (place h.letters n) 0 ≡ n
  own n l =
      let p = place_seek h.letters n (placed h.letters n l) in
      ap (λ (k : ℕ). get_or h.letters k 0) p ∙ seek_at h.letters n (omega (arith, p, T.letters))

  pub own_holding : (n : ℕ) → place h.letters n < 64 → holding_of h n ≡ at h.holdings (place h.letters n)
  own_holding n l =
      let pos = placed h.letters n l in
      held_at i h n T pos ∙ ap (λ (k : ℕ). at h.holdings k) (sym (place_seek h.letters n pos))

  -- its state is stored at its place
  pub stored : (n : ℕ) (x : Holding) → place h.letters n < 64 → 1 ≤ x.coins → Changed i n x h (store h (place h.letters n) x)
  stored n x l some =
      let k = place h.letters n in
      let o : get_or h.letters k 0 ≡ n = own n l in
      let e : set h.letters k n ≡ h.letters = ap (λ (m : ℕ). set h.letters k m) (sym o) ∙ set-get_or h.letters k 0 in
      subst (λ (ls : List ℕ). Changed i n x h (record { me = h.me; letters = ls; holdings = set h.holdings k x })) e (written k n x l (placed h.letters n l) (inl o) some)

  -- the place that is found for a letter fits
  pub slot_fits : (n : ℕ) → 1 ≤ n → slot_for h n < 64 → Fits h.letters (slot_for h n) n
  slot_fits n pos =
      by_test (λ k. k < 64 → Fits h.letters k n) (ltb (place h.letters n) 64) (place h.letters n) (seek h.letters 0)
      (λ t _. inl (own n (ltb-true _ _ t)))
      (λ f l. inr (seek_at h.letters 0 (in_letters _ l), omega (arith, ltb-false _ _ f, place_seek h.letters n pos, seek_le h.letters n, T.letters)))

  -- a letter with coins has a place
  pub has_place : (n : ℕ) → 1 ≤ n → 1 ≤ (holding_of h n).coins → place h.letters n < 64
  has_place n pos =
      by_test (λ x. 1 ≤ x.coins → place h.letters n < 64) (ltb (place h.letters n) 64) (at h.holdings (place h.letters n)) idle
      (λ t _. ltb-true _ _ t) (λ _ z. absurd (omega arith))

pub tidy_new : (i : ℕ) → Tidy i (new_helper (record { number = i }))
tidy_new i =
    record {
      named = refl;
      letters = refl;
      holdings = refl;
      apart = λ a b la lb e p. absurd (omega (arith, get_or-replicate {A = ℕ} 64 a 0 0 la));
      used = λ k l p. absurd (omega (arith, get_or-replicate {A = ℕ} 64 k 0 0 l));
      free = λ k l p. ap (λ (y : Holding). y.coins) (get_or-replicate 64 k idle idle l);
    }

pub new_holding : (i n : ℕ) → 1 ≤ n → holding_of (new_helper (record { number = i })) n ≡ idle
new_holding i n pos =
    held_at i (new_helper (record { number = i })) n (tidy_new i) pos ∙ get_or_past (replicate 64 idle) (seek (replicate 64 0) n) idle (out (seek_out (replicate 64 0) n (λ k l e. omega (arith, get_or-replicate {A = ℕ} 64 k 0 0 l))))
  where
    out : seek (replicate 64 0) n ≡ 64 → length (replicate 64 idle) ≤ seek (replicate 64 0) n
    out e = omega arith

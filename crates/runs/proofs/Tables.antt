-- Tables of 64 letters: where a letter stands, and what a write at one place leaves of the others.
use Rattle.std.proofs.Common.{◌≡◌, ℕ, zero, suc, ◌<◌, ◌≤◌, Bool, true, false, cond, ◌&&◌, eqb, ◌⊎◌, List, length, get_or, set, sym, refl, ap, ◌∙◌, inl, inr, arith}
use Rattle.std.proofs.lemmas.List.{length-set, get_or-set_same, get_or-set_other}
use Rattle.std.proofs.lemmas.List.Sums.{prefix_len-le-length, passes_at_first, fails_before_first}
use Rattle.std.proofs.lemmas.List.Folds.{position_or_len-set}
use Rattle.std.proofs.lemmas.Bool.{eqb-true, eqb-false, ne_eqb}
use Rattle.std.proofs.lemmas.Bool.Decides.{eqb_tells, leb_tells}
use Rattle.coins.specs.Letters.{seek, place}
pub use Rattle.coins.proofs.Tests.{by_test}

pub and_true : (x : Bool) → x && true ≡ x
and_true true = refl
and_true false = refl

pub and_false : (x : Bool) → x && false ≡ false
and_false true = refl
and_false false = refl

pub both_true : (a b : Bool) → a && b ≡ true → (a ≡ true) × (b ≡ true)
both_true true b e = (refl, e)
both_true false b e = absurd (let z : ◌≡◌ {A = ℕ} 0 1 = cc in omega arith)

pub positive : (x : ℕ) → (x ≡ 0 → ⊥) → 1 ≤ x
positive x f = omega arith

pub seek_le : (xs : List ℕ) (n : ℕ) → seek xs n ≤ length xs
seek_le xs n = prefix_len-le-length _ xs

pub seek_at : (xs : List ℕ) (n : ℕ) → seek xs n < length xs → get_or xs (seek xs n) 0 ≡ n
seek_at xs n h = eqb-true _ _ (passes_at_first (λ x. eqb x n) xs 0 h)

pub seek_before : (xs : List ℕ) (n k : ℕ) → k < seek xs n → get_or xs k 0 ≡ n → ⊥
seek_before xs n k h e = eqb-false _ _ (fails_before_first (λ x. eqb x n) xs k 0 h) e

-- a number that stands nowhere
pub seek_out : (xs : List ℕ) (n : ℕ) → ((k : ℕ) → k < length xs → get_or xs k 0 ≡ n → ⊥) → seek xs n ≡ length xs
seek_out xs n no_place =
    elim (leb_tells (length xs) (seek xs n)) [
      | inl t ↦ omega (arith, t.1, seek_le xs n)
      | inr t ↦ absurd (no_place (seek xs n) t.1 (seek_at xs n t.1))
    ]

pub seek_set_other : (xs : List ℕ) (i y n : ℕ) → (get_or xs i 0 ≡ n → ⊥) → (y ≡ n → ⊥) → seek (set xs i y) n ≡ seek xs n
seek_set_other xs i y n f g = position_or_len-set (λ x. eqb x n) xs i y 0 (ne_eqb y n g ∙ sym (ne_eqb _ n f))

pub seek_set_new : (xs : List ℕ) (i n : ℕ) → i < length xs → seek xs n ≡ length xs → seek (set xs i n) n ≡ i
seek_set_new xs i n lt out =
    let l = length-set xs i n in
    let here : get_or (set xs i n) i 0 ≡ n = get_or-set_same xs i n 0 lt in
    elim (leb_tells (seek (set xs i n) n) i) [
      | inl t ↦ elim (eqb_tells (seek (set xs i n) n) i) [
        | inl s ↦ s.1
        | inr s ↦ absurd (seek_before xs n (seek (set xs i n) n) (omega (arith, t.1, out)) (sym (get_or-set_other xs i (seek (set xs i n) n) n 0 s.1) ∙ seek_at (set xs i n) n (omega (arith, t.1, l))))
      ]
      | inr t ↦ absurd (seek_before (set xs i n) n i t.1 here)
    ]

-- no letter stands at two places
abbrev pub Apart : List ℕ → Type 0
Apart xs = (i j : ℕ) → i < length xs → j < length xs → get_or xs i 0 ≡ get_or xs j 0 → 1 ≤ get_or xs i 0 → i ≡ j

pub seek_apart : (xs : List ℕ) (n k : ℕ) → Apart xs → k < length xs → get_or xs k 0 ≡ n → 1 ≤ n → seek xs n ≡ k
seek_apart xs n k A lt e pos =
    elim (leb_tells (length xs) (seek xs n)) [
      | inl t ↦ absurd (seek_before xs n k (omega (arith, t.1)) e)
      | inr t ↦ let s = seek_at xs n t.1 in A (seek xs n) k t.1 lt (s ∙ sym e) (omega (arith, s))
    ]

pub seek_set_gone : (xs : List ℕ) (i y n : ℕ) → Apart xs → i < length xs → get_or xs i 0 ≡ n → 1 ≤ n → (y ≡ n → ⊥) → seek (set xs i y) n ≡ length xs
seek_set_gone xs i y n A lt e pos ne =
    seek_out (set xs i y) n no_place ∙ length-set xs i y
  where
    no_place : (k : ℕ) → k < length (set xs i y) → get_or (set xs i y) k 0 ≡ n → ⊥
    no_place k l q =
        elim (eqb_tells k i) [
          | inl s ↦ ne (sym (get_or-set_same xs i y 0 lt) ∙ ap (λ (j : ℕ). get_or (set xs i y) j 0) (sym s.1) ∙ q)
          | inr s ↦ let h : get_or xs k 0 ≡ n = sym (get_or-set_other xs i k y 0 s.1) ∙ q in s.1 (A k i (omega (arith, length-set xs i y)) lt (h ∙ sym e) (omega (arith, h)))
        ]

pub apart_set : (xs : List ℕ) (i n : ℕ) → Apart xs → i < length xs → ((k : ℕ) → k < length xs → (k ≡ i → ⊥) → get_or xs k 0 ≡ n → 1 ≤ n → ⊥) → Apart (set xs i n)
apart_set xs i n A lt new a b la lb e pos =
    let l = length-set xs i n in
    let here : get_or (set xs i n) i 0 ≡ n = get_or-set_same xs i n 0 lt in
    let at : (k : ℕ) → (k ≡ i → ⊥) → get_or (set xs i n) k 0 ≡ get_or xs k 0 = λ k ne. get_or-set_other xs i k n 0 ne in
    let is : (k : ℕ) → k ≡ i → get_or (set xs i n) k 0 ≡ n = λ k q. ap (λ (j : ℕ). get_or (set xs i n) j 0) q ∙ here in
    elim (eqb_tells a i) [
      | inl p ↦ elim (eqb_tells b i) [
        | inl q ↦ p.1 ∙ sym q.1
        | inr q ↦ absurd (new b (omega (arith, l)) q.1 (sym (at b q.1) ∙ sym e ∙ is a p.1) (omega (arith, is a p.1)))
      ]
      | inr p ↦ elim (eqb_tells b i) [
        | inl q ↦ absurd (new a (omega (arith, l)) p.1 (sym (at a p.1) ∙ e ∙ is b q.1) (omega (arith, e, is b q.1)))
        | inr q ↦ A a b (omega (arith, l)) (omega (arith, l)) (sym (at a p.1) ∙ e ∙ at b q.1) (omega (arith, at a p.1))
      ]
    ]

-- the place i is the letter's own, or is free while the letter has none
abbrev pub Fits : List ℕ → ℕ → ℕ → Type 0
Fits xs i n = (get_or xs i 0 ≡ n) ⊎ ((get_or xs i 0 ≡ 0) × (seek xs n ≡ length xs))

pub seek_fits : (xs : List ℕ) (i n : ℕ) → Apart xs → i < length xs → 1 ≤ n → Fits xs i n → seek (set xs i n) n ≡ i
seek_fits xs i n A lt pos (inl e) =
    seek_apart (set xs i n) n i (apart_set xs i n A lt (λ k l ne q _. ne (A k i l lt (q ∙ sym e) (omega (arith, q))))) (omega (arith, length-set xs i n)) (get_or-set_same xs i n 0 lt) pos
seek_fits xs i n A lt pos (inr e) = seek_set_new xs i n lt e.1

pub apart_fits : (xs : List ℕ) (i n : ℕ) → Apart xs → i < length xs → Fits xs i n → Apart (set xs i n)
apart_fits xs i n A lt (inl e) = apart_set xs i n A lt (λ k l ne q p. ne (A k i l lt (q ∙ sym e) (omega (arith, q))))
apart_fits xs i n A lt (inr e) = apart_set xs i n A lt (λ k l ne q p. seek_before xs n k (omega (arith, e.1)) q)

-- another letter stands where it stood
pub fits_other : (xs : List ℕ) (i n m : ℕ) → Fits xs i n → 1 ≤ m → (m ≡ n → ⊥) → get_or xs i 0 ≡ m → ⊥
fits_other xs i n m (inl e) pos ne q = ne (sym q ∙ e)
fits_other xs i n m (inr e) pos ne q = omega (arith, q, e.0)

pub place_seek : (xs : List ℕ) (n : ℕ) → 1 ≤ n → place xs n ≡ seek xs n
place_seek xs n pos = rw (ne_eqb n 0 (omega arith))

-- what has a place has a number
pub placed : (xs : List ℕ) (n : ℕ) → place xs n < 64 → 1 ≤ n
placed xs n = by_test (λ p. p < 64 → 1 ≤ n) (eqb n 0) 64 (seek xs n) (λ _ h. absurd (omega arith)) (λ e _. let ne = eqb-false n 0 e in omega arith)

-- an injective function into fewer numbers: impossible
module _ (n : ℕ) (f : ℕ → ℕ) (small : (i : ℕ) → i ≤ suc n → f i < suc n) (one : (i j : ℕ) → i ≤ suc n → j ≤ suc n → f i ≡ f j → i ≡ j) where
  abbrev squeezed : ℕ → ℕ
  squeezed i = cond (eqb (f i) n) (f (suc n)) (f i)

  not_last : (i : ℕ) → i ≤ n → f i ≡ f (suc n) → ⊥
  not_last i l e = let h = one i (suc n) (omega arith) (omega arith) e in omega arith

  squeezed_small : (i : ℕ) → i ≤ n → squeezed i < n
  squeezed_small i l =
      let s = small i (omega arith) in
      let t = small (suc n) (omega arith) in
      by_test (λ k. k < n) (eqb (f i) n) (f (suc n)) (f i)
      (λ e. let q = eqb-true (f i) n e in let a : f (suc n) ≡ n → ⊥ = λ z. not_last i l (q ∙ sym z) in omega arith)
      (λ e. let q = eqb-false (f i) n e in omega arith)

  squeezed_one : (i j : ℕ) → i ≤ n → j ≤ n → squeezed i ≡ squeezed j → i ≡ j
  squeezed_one i j li lj =
      by_test (λ a. a ≡ squeezed j → i ≡ j) (eqb (f i) n) (f (suc n)) (f i)
      (λ e. by_test (λ b. f (suc n) ≡ b → i ≡ j) (eqb (f j) n) (f (suc n)) (f j)
      (λ d _. one i j (omega arith) (omega arith) (eqb-true (f i) n e ∙ sym (eqb-true (f j) n d)))
      (λ _ q. absurd (not_last j lj (sym q))))
      (λ e. by_test (λ b. f i ≡ b → i ≡ j) (eqb (f j) n) (f (suc n)) (f j)
      (λ _ q. absurd (not_last i li q))
      (λ _ q. one i j (omega arith) (omega arith) q))

pub pigeons : (n : ℕ) (f : ℕ → ℕ) → ((i : ℕ) → i ≤ n → f i < n) → ((i j : ℕ) → i ≤ n → j ≤ n → f i ≡ f j → i ≡ j) → ⊥
pigeons zero f small one = absurd (let h = small 0 (omega arith) in omega arith)
pigeons (suc n) f small one = pigeons n (squeezed n f small one) (squeezed_small n f small one) (squeezed_one n f small one)

-- The boss's table: what a write at one place does to each letter.
use Rattle.std.proofs.Common.{◌≡◌, ℕ, ◌+◌, ◌<◌, ◌≤◌, Bool, true, false, cond, not, ◌&&◌, ltb, leb, ◌⊎◌, List, length, get_or, set, replicate, sym, refl, ap, ◌∙◌, subst, inl, inr, arith, ltb-false, le-ltb, lt-ltb}
use Rattle.std.proofs.lemmas.List.{length-set, get_or-set_same, get_or-set_other, get_or_past, set-get_or, get_or-replicate}
use Rattle.std.proofs.lemmas.Bool.Decides.{nat_tests, eqb_tells, leb_tells}
use Rattle.boss_coins.specs.declared.boss.Boss.{Boss}
use Rattle.coins.specs.Limits.{grant}
use Rattle.coins.specs.Letters.{seek, place}
use Rattle.boss_coins.specs.Bosses.{new_boss, is_open, given_of, back_of, granted, entered}
use Rattle.runs.specs.Letter.{is_done}
use Rattle.runs.proofs.Tables.{by_test, seek_at, seek_out, seek_set_other, Apart, seek_set_gone, Fits, seek_fits, apart_set, apart_fits, place_seek, placed, and_true, and_false}

-- A table in order; no open letter is above the highest.
pub record Tidy (b : Boss) : Type 0 where
  pub letters : length b.letters ≡ 64
  pub given : length b.given ≡ 64
  pub back : length b.back ≡ 64
  pub apart : Apart b.letters
  pub low : (k : ℕ) → k < 64 → get_or b.letters k 0 ≤ b.highest

pub open_is : (b : Boss) (n : ℕ) → 1 ≤ n → is_open b n ≡ ltb (seek b.letters n) 64
open_is b n pos = ap (λ (k : ℕ). ltb k 64) (place_seek b.letters n pos)

-- a count of a letter stands at its place
count_is : (b : Boss) (words : List ℕ) (n : ℕ) → length words ≡ 64 → 1 ≤ n → cond (is_open b n) (get_or words (place b.letters n) 0) 0 ≡ get_or words (seek b.letters n) 0
count_is b words n l pos =
    by_test (λ x. x ≡ get_or words (seek b.letters n) 0) (is_open b n) (get_or words (place b.letters n) 0) 0
    (λ _. ap (λ (k : ℕ). get_or words k 0) (place_seek b.letters n pos))
    (λ e. sym (get_or_past words (seek b.letters n) 0 (omega (arith, ltb-false _ _ e, place_seek b.letters n pos))))

-- What becomes of the boss when its account of one letter comes to this; other letters' stay, but that a number may be passed over.
pub record Booked (n : ℕ) (live done : Bool) (given back : ℕ) (b c : Boss) : Type 0 where
  pub tidy : Tidy c
  pub live_is : is_open c n ≡ live
  pub done_is : is_done c n ≡ done
  pub given_is : given_of c n ≡ given
  pub back_is : back_of c n ≡ back
  pub live_same : (m : ℕ) → 1 ≤ m → (m ≡ n → ⊥) → is_open c m ≡ is_open b m
  pub given_same : (m : ℕ) → 1 ≤ m → (m ≡ n → ⊥) → given_of c m ≡ given_of b m
  pub back_same : (m : ℕ) → 1 ≤ m → (m ≡ n → ⊥) → back_of c m ≡ back_of b m
  pub done_same : (m : ℕ) → 1 ≤ m → (m ≡ n → ⊥) → (is_done c m ≡ is_done b m) ⊎ ((is_open b m ≡ false) × (is_done c m ≡ true))

pub not_done : (b : Boss) (n : ℕ) → is_open b n ≡ true → is_done b n ≡ false
not_done b n e = rw e (and_false (leb n b.highest))

is_done_below : (b : Boss) (n : ℕ) → is_open b n ≡ false → n ≤ b.highest → is_done b n ≡ true
is_done_below b n e l = rw e (and_true (leb n b.highest) ∙ grind (arith, nat_tests))

pub unchanged : (n : ℕ) (b : Boss) → Tidy b → Booked n (is_open b n) (is_done b n) (given_of b n) (back_of b n) b b
unchanged n b T =
    record { tidy = T; live_is = refl; done_is = refl; given_is = refl; back_is = refl; live_same = λ m p ne. refl; given_same = λ m p ne. refl; back_same = λ m p ne. refl; done_same = λ m p ne. inl refl }

-- a letter that stands where it stood, with the counts that it had
record Stays (m : ℕ) (b c : Boss) : Type 0 where
  place_is : seek c.letters m ≡ seek b.letters m
  given_is : get_or c.given (seek b.letters m) 0 ≡ get_or b.given (seek b.letters m) 0
  back_is : get_or c.back (seek b.letters m) 0 ≡ get_or b.back (seek b.letters m) 0

module _ (b c : Boss) (T : Tidy b) (U : Tidy c) where
  same_live : (m : ℕ) → 1 ≤ m → Stays m b c → is_open c m ≡ is_open b m
  same_live m pos S = open_is c m pos ∙ ap (λ (k : ℕ). ltb k 64) S.place_is ∙ sym (open_is b m pos)

  same_given : (m : ℕ) → 1 ≤ m → Stays m b c → given_of c m ≡ given_of b m
  same_given m pos S = count_is c c.given m U.given pos ∙ ap (λ (k : ℕ). get_or c.given k 0) S.place_is ∙ S.given_is ∙ sym (count_is b b.given m T.given pos)

  same_back : (m : ℕ) → 1 ≤ m → Stays m b c → back_of c m ≡ back_of b m
  same_back m pos S = count_is c c.back m U.back pos ∙ ap (λ (k : ℕ). get_or c.back k 0) S.place_is ∙ S.back_is ∙ sym (count_is b b.back m T.back pos)

  same_done : (m : ℕ) → 1 ≤ m → Stays m b c → c.highest ≡ b.highest → is_done c m ≡ is_done b m
  same_done m pos S e = rw (same_live m pos S, e)

  -- the highest letter rose: numbers below it that are not open are passed over
  skip_done : (m : ℕ) → 1 ≤ m → Stays m b c → b.highest ≤ c.highest → (is_done c m ≡ is_done b m) ⊎ ((is_open b m ≡ false) × (is_done c m ≡ true))
  skip_done m pos S le =
      let s = same_live m pos S in
      elim (leb_tells m c.highest) [
        | inl t ↦ by_live (is_open b m) refl t.1
        | inr t ↦ inl (rw s (high (leb_high m b.highest (omega (arith, t.1))) (leb_high m c.highest t.1)))
      ]
    where
      leb_high : (x y : ℕ) → y < x → leb x y ≡ false
      leb_high x y l = grind (arith, nat_tests)

      high : leb m b.highest ≡ false → leb m c.highest ≡ false → (leb m c.highest && not (is_open b m)) ≡ (leb m b.highest && not (is_open b m))
      high e f = rw (e, f)

      by_live : (o : Bool) → is_open b m ≡ o → m ≤ c.highest → (is_done c m ≡ is_done b m) ⊎ ((is_open b m ≡ false) × (is_done c m ≡ true))
      by_live true o l = inl (not_done c m (same_live m pos S ∙ o) ∙ sym (not_done b m o))
      by_live false o l = inr (o, is_done_below c m (same_live m pos S ∙ o) l)

module _ (b : Boss) (T : Tidy b) where
  -- a place that has another letter
  not_there : (k n m : ℕ) → k < 64 → get_or b.letters k 0 ≡ n → (m ≡ n → ⊥) → seek b.letters m ≡ k → ⊥
  not_there k n m l e ne q = ne (sym (seek_at b.letters m (omega (arith, q, T.letters))) ∙ ap (λ (j : ℕ). get_or b.letters j 0) q ∙ e)

  pub own : (n : ℕ) → place b.letters n < 64 → get_or b.letters (place b.letters n) 0 ≡ n
  own n l =
      let p = place_seek b.letters n (placed b.letters n l) in
      ap (λ (k : ℕ). get_or b.letters k 0) p ∙ seek_at b.letters n (omega (arith, p, T.letters))

  pub own_given : (n : ℕ) → place b.letters n < 64 → given_of b n ≡ get_or b.given (place b.letters n) 0
  own_given n l = rw (lt-ltb (place b.letters n) 64 l)

  pub own_back : (n : ℕ) → place b.letters n < 64 → back_of b n ≡ get_or b.back (place b.letters n) 0
  own_back n l = rw (lt-ltb (place b.letters n) 64 l)

  pub own_live : (n : ℕ) → place b.letters n < 64 → is_open b n ≡ true
  own_live n l = lt-ltb (place b.letters n) 64 l

  -- the counts of a letter that has a place come to these
  pub counted : (n given back : ℕ) → place b.letters n < 64 →
      Booked n true false given back b (record { highest = b.highest; letters = b.letters; given = set b.given (place b.letters n) given; back = set b.back (place b.letters n) back })
  counted n given back l =
      record {
        tidy = U;
        live_is = own_live n l;
        done_is = not_done b n (own_live n l);
        given_is = rw (lt-ltb k 64 l) (get_or-set_same b.given k given 0 (omega (arith, T.given)));
        back_is = rw (lt-ltb k 64 l) (get_or-set_same b.back k back 0 (omega (arith, T.back)));
        live_same = λ m p ne. same_live b _ T U m p (S m p ne);
        given_same = λ m p ne. same_given b _ T U m p (S m p ne);
        back_same = λ m p ne. same_back b _ T U m p (S m p ne);
        done_same = λ m p ne. inl (same_done b _ T U m p (S m p ne) refl);
      }
    where
      k : ℕ
      k = place b.letters n

      U : Tidy (record { highest = b.highest; letters = b.letters; given = set b.given k given; back = set b.back k back })
      U = record { letters = T.letters; given = length-set b.given k given ∙ T.given; back = length-set b.back k back ∙ T.back; apart = T.apart; low = T.low }

      S : (m : ℕ) → 1 ≤ m → (m ≡ n → ⊥) → Stays m b (record { highest = b.highest; letters = b.letters; given = set b.given k given; back = set b.back k back })
      S m p ne =
          let x = not_there k n m l (own n l) ne in
          record { place_is = refl; given_is = get_or-set_other b.given k (seek b.letters m) given 0 x; back_is = get_or-set_other b.back k (seek b.letters m) back 0 x }

  -- more is given, or has come back, of a letter that has a place
  pub gave : (n : ℕ) → place b.letters n < 64 → Booked n true false (given_of b n + grant) (back_of b n) b (granted b (place b.letters n))
  gave n l =
      let k = place b.letters n in
      rw (own_given n l, own_back n l)
      (subst (λ (ws : List ℕ). Booked n true false (get_or b.given k 0 + grant) (get_or b.back k 0) b (record { highest = b.highest; letters = b.letters; given = set b.given k (get_or b.given k 0 + grant); back = ws }))
      (set-get_or b.back k 0) (counted n (get_or b.given k 0 + grant) (get_or b.back k 0) l))

  pub returned : (n c : ℕ) → place b.letters n < 64 →
      Booked n true false (given_of b n) (back_of b n + c) b (record { highest = b.highest; letters = b.letters; given = b.given; back = set b.back (place b.letters n) (get_or b.back (place b.letters n) 0 + c) })
  returned n c l =
      let k = place b.letters n in
      rw (own_given n l, own_back n l)
      (subst (λ (ws : List ℕ). Booked n true false (get_or b.given k 0) (get_or b.back k 0 + c) b (record { highest = b.highest; letters = b.letters; given = ws; back = set b.back k (get_or b.back k 0 + c) }))
      (set-get_or b.given k 0) (counted n (get_or b.given k 0) (get_or b.back k 0 + c) l))

  -- a place is entered anew: what stands elsewhere stays
  entry_tidy : (top k n given : ℕ) → k < 64 → Apart (set b.letters k n) → b.highest ≤ top → n ≤ top → Tidy (entered b top k n given)
  entry_tidy top k n given l A le ln =
      record {
        letters = length-set b.letters k n ∙ T.letters;
        given = length-set b.given k given ∙ T.given;
        back = length-set b.back k 0 ∙ T.back;
        apart = A;
        low = λ j lj. elim (eqb_tells j k) [
          | inl s ↦ omega (arith, ap (λ (a : ℕ). get_or (set b.letters k n) a 0) s.1, get_or-set_same b.letters k n 0 (omega (arith, T.letters)))
          | inr s ↦ omega (arith, T.low j lj, get_or-set_other b.letters k j n 0 s.1)
        ];
      }

  entry_stays : (top k n given m : ℕ) → k < 64 → 1 ≤ m → (get_or b.letters k 0 ≡ m → ⊥) → (n ≡ m → ⊥) → Stays m b (entered b top k n given)
  entry_stays top k n given m l pos was is =
      let x : seek b.letters m ≡ k → ⊥ = λ q. was (ap (λ (j : ℕ). get_or b.letters j 0) (sym q) ∙ seek_at b.letters m (omega (arith, q, T.letters))) in
      record {
        place_is = seek_set_other b.letters k n m was is;
        given_is = get_or-set_other b.given k (seek b.letters m) given 0 x;
        back_is = get_or-set_other b.back k (seek b.letters m) 0 0 x;
      }

  -- a new letter is opened at a free place
  pub opened : (n : ℕ) → b.highest < n → seek b.letters 0 < 64 → Booked n true false grant 0 b (entered b n (seek b.letters 0) n grant)
  opened n new l =
      record {
        tidy = U;
        live_is = live;
        done_is = not_done c n live;
        given_is = count_is c c.given n U.given pos ∙ ap (λ (j : ℕ). get_or c.given j 0) here ∙ get_or-set_same b.given k grant 0 (omega (arith, T.given));
        back_is = count_is c c.back n U.back pos ∙ ap (λ (j : ℕ). get_or c.back j 0) here ∙ get_or-set_same b.back k 0 0 (omega (arith, T.back));
        live_same = λ m p ne. same_live b c T U m p (S m p ne);
        given_same = λ m p ne. same_given b c T U m p (S m p ne);
        back_same = λ m p ne. same_back b c T U m p (S m p ne);
        done_same = λ m p ne. skip_done b c T U m p (S m p ne) (omega arith);
      }
    where
      k : ℕ
      k = seek b.letters 0

      pos : 1 ≤ n
      pos = omega arith

      free : get_or b.letters k 0 ≡ 0
      free = seek_at b.letters 0 (omega (arith, T.letters))

      absent : seek b.letters n ≡ length b.letters
      absent = seek_out b.letters n (λ j lj e. omega (arith, T.low j (omega (arith, T.letters)), e))

      F : Fits b.letters k n
      F = inr (free, absent)

      inside : k < length b.letters
      inside = omega (arith, T.letters)

      c : Boss
      c = entered b n k n grant

      U : Tidy (entered b n k n grant)
      U = entry_tidy n k n grant l (apart_fits b.letters k n T.apart inside F) (omega arith) (omega arith)

      here : seek (set b.letters k n) n ≡ k
      here = seek_fits b.letters k n T.apart inside pos F

      live : is_open (entered b n k n grant) n ≡ true
      live = open_is (entered b n k n grant) n pos ∙ lt-ltb (seek (set b.letters k n) n) 64 (omega (arith, here))

      S : (m : ℕ) → 1 ≤ m → (m ≡ n → ⊥) → Stays m b (entered b n k n grant)
      S m p ne = entry_stays n k n grant m l p (λ q. omega (arith, free, q)) (λ q. ne (sym q))

  -- a letter is done, and its place is free
  pub closed : (n : ℕ) → place b.letters n < 64 → Booked n false true 0 0 b (entered b b.highest (place b.letters n) 0 0)
  closed n l =
      record {
        tidy = U;
        live_is = live;
        done_is = is_done_below c n live (omega (arith, T.low k l, own n l));
        given_is = rw live;
        back_is = rw live;
        live_same = λ m p ne. same_live b c T U m p (S m p ne);
        given_same = λ m p ne. same_given b c T U m p (S m p ne);
        back_same = λ m p ne. same_back b c T U m p (S m p ne);
        done_same = λ m p ne. inl (same_done b c T U m p (S m p ne) refl);
      }
    where
      k : ℕ
      k = place b.letters n

      inside : k < length b.letters
      inside = omega (arith, T.letters)

      pos : 1 ≤ n
      pos = placed b.letters n l

      c : Boss
      c = entered b b.highest k 0 0

      U : Tidy (entered b b.highest k 0 0)
      U = entry_tidy b.highest k 0 0 l (apart_set b.letters k 0 T.apart inside (λ j lj ne q p. omega arith)) (omega arith) (omega arith)

      live : is_open (entered b b.highest k 0 0) n ≡ false
      live = open_is (entered b b.highest k 0 0) n pos ∙ le-ltb (seek (set b.letters k 0) n) 64 (omega (arith, seek_set_gone b.letters k 0 n T.apart inside (own n l) pos (λ q. omega (arith, pos)), T.letters))

      S : (m : ℕ) → 1 ≤ m → (m ≡ n → ⊥) → Stays m b (entered b b.highest k 0 0)
      S m p ne = entry_stays b.highest k 0 0 m l p (λ q. ne (sym q ∙ own n l)) (λ q. omega arith)

pub tidy_new : Tidy new_boss
tidy_new =
    record {
      letters = refl;
      given = refl;
      back = refl;
      apart = λ a b la lb e p. absurd (omega (arith, get_or-replicate {A = ℕ} 64 a 0 0 la));
      low = λ k l. omega (arith, get_or-replicate {A = ℕ} 64 k 0 0 l);
    }

pub new_live : (n : ℕ) → 1 ≤ n → is_open new_boss n ≡ false
new_live n pos = open_is new_boss n pos ∙ le-ltb (seek (replicate 64 0) n) 64 (omega (arith, seek_out (replicate 64 0) n (λ k l e. omega (arith, get_or-replicate {A = ℕ} 64 k 0 0 l, e))))

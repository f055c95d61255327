-- One line, and what each change of it does.
use Rattle.std.proofs.Common.{◌≡◌, ℕ, suc, ◌+◌, ◌-◌, ◌≤◌, List, ◌∷◌, ◌++◌, length, drop, sym, ap, ◌∙◌, inl, inr, append_assoc, arith, length-append, length-drop}
use Rattle.std.proofs.lemmas.Bool.Decides.{leb_tells}
use Rattle.std.proofs.lemmas.List.{drop-drop, drop_at, drop-append-le}
use Rattle.lines.specs.Lossy.{Line, under, keep, take_one, cut, Waits, Known, Ordered, Grows}

module _ {P : Type 0} where
  -- numbers only grow
  pub grows_not : (l : Line P) → Grows l l
  grows_not l = record { answered = omega arith; taken = omega arith; posted = omega arith }

  pub grows_on : (l m n : Line P) → Grows l m → Grows m n → Grows l n
  grows_on l m n a b = record { answered = omega (arith, a.answered, b.answered); taken = omega (arith, a.taken, b.taken); posted = omega (arith, a.posted, b.posted) }

  pub grows_keep : (ps : List P) (l : Line P) → Grows l (keep ps l)
  grows_keep ps l = record { answered = omega arith; taken = omega arith; posted = simp length-append (omega arith) }

  pub grows_take : (l : Line P) → Grows l (take_one l)
  grows_take l = record { answered = omega arith; taken = omega arith; posted = omega arith }

  pub grows_cut : (n : ℕ) (l : Line P) → Grows l (cut n l)
  grows_cut n l = record { answered = omega arith; taken = omega arith; posted = simp length-drop (omega arith) }

  -- a line that was ordered comes to be m: what was known of it stays known
  pub record Next (l m : Line P) : Type 0 where
    pub ordered : Ordered m
    pub grows : Grows l m
    pub known : (n : ℕ) (p : P) → Known n p l → Known n p m

  pub next_not : (l : Line P) → Ordered l → Next l l
  next_not l o = record { ordered = o; grows = grows_not l; known = λ n p k. k }

  pub next_on : (l m n : Line P) → Next l m → Next m n → Next l n
  next_on l m n a b = record { ordered = b.ordered; grows = grows_on l m n a.grows b.grows; known = λ i p k. b.known i p (a.known i p k) }

  pub next_keep : (ps : List P) (l : Line P) → Ordered l → Next l (keep ps l)
  next_keep ps l o = record { ordered = record { low = o.low; high = simp length-append (omega (arith, o.high)) }; grows = grows_keep ps l; known = known }
    where
      known : (n : ℕ) (p : P) → Known n p l → Known n p (keep ps l)
      known n p (inl h) = inl h
      known n p (inr a) = inr (record { front = a.front; back = a.back ++ ps; parts = rw a.parts (append_assoc a.front (p ∷ a.back) ps); number = a.number })

  pub next_take : (i : ℕ) (p : P) (l : Line P) → Waits i p l → i ≡ suc l.taken → Ordered l → Next l (take_one l)
  next_take i p l a e o = record { ordered = record { low = omega (arith, o.low); high = omega (arith, a.number, length-append a.front (p ∷ a.back), ap length a.parts) }; grows = grows_take l; known = known }
    where
      known : (n : ℕ) (q : P) → Known n q l → Known n q (take_one l)
      known n q (inl h) = inl (omega arith)
      known n q (inr b) = inr (record { front = b.front; back = b.back; parts = b.parts; number = b.number })

  pub next_cut : (i : ℕ) (l : Line P) → i ≤ l.taken → Ordered l → Next l (cut i l)
  next_cut i l h o = record { ordered = record { low = omega (arith, o.low); high = simp length-drop (omega (arith, o.low, o.high)) }; grows = grows_cut i l; known = known }
    where
      known : (n : ℕ) (p : P) → Known n p l → Known n p (cut i l)
      known n p (inl k) = inl k
      known n p (inr a) =
          elim (leb_tells n l.taken) [
            | inl k ↦ inl k.1
            | inr k ↦ let le : i - l.answered ≤ length a.front = omega (arith, a.number, k.1) in
                inr (record { front = drop (i - l.answered) a.front; back = a.back; parts = rw a.parts (drop-append-le (i - l.answered) a.front (p ∷ a.back) le); number = simp length-drop (omega (arith, a.number)) })
          ]

  -- what is under way
  pub under_keep : (ps : List P) (l : Line P) → Ordered l → under (keep ps l) ≡ under l ++ ps
  under_keep ps l o = drop-append-le (l.taken - l.answered) l.waiting ps (omega (arith, o.low, o.high))

  pub under_cut : (n : ℕ) (l : Line P) → n ≤ l.taken → Ordered l → under (cut n l) ≡ under l
  under_cut n l h o = drop-drop (l.taken - (l.answered + (n - l.answered))) (n - l.answered) l.waiting ∙ ap (λ k. drop k l.waiting) (omega (arith, o.low))

  -- what waits under the next number is the oldest
  pub under_next : (n : ℕ) (p : P) (l : Line P) (a : Waits n p l) → n ≡ suc l.taken → under l ≡ p ∷ a.back
  under_next n p l a e = rw a.parts (drop_at a.front (p ∷ a.back) (l.taken - l.answered) (omega (arith, a.number)))

  pub under_take : (n : ℕ) (p : P) (l : Line P) (a : Waits n p l) → n ≡ suc l.taken → under (take_one l) ≡ a.back
  under_take n p l a e =
      ap (λ k. drop k l.waiting) (omega (arith, a.number)) ∙ (sym (drop-drop 1 (l.taken - l.answered) l.waiting) ∙ ap (drop 1) (under_next n p l a e))

  -- a frame with the next number that is sound is of a message that waits
  pub next_waits : (n : ℕ) (p : P) (l : Line P) → n ≡ suc l.taken → Known n p l → Waits n p l
  next_waits n p l e (inl h) = absurd (omega arith)
  next_waits n p l e (inr a) = a

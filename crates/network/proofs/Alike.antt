-- Worlds that are alike have the same promises.
use Rattle.std.proofs.Common.{◌≡◌, ℕ, ◌+◌, ◌<◌, Bool, true, false, cond, List, [], ◌∷◌, length, All, sum_by, filter, sym, refl, ap, ◌∙◌, arith}
use Rattle.std.specs.List.Sorted.{IsPermutation}
use Rattle.std.proofs.lemmas.List.Elements.{All-nil, All-cons, All-head, All-tail, All-get_or, All-from_get_or}
use Rattle.std.proofs.lemmas.List.Sorted.{All-permutation, sum_by-IsPermutation}
use Rattle.std.proofs.lemmas.List.Sums.{sum_by-cons}
use Rattle.coins.specs.declared.mail.Mail.{Mail}
use Rattle.coins.specs.Limits.{boss_number}
use Rattle.coins.specs.Mails.{coins_in}
use Rattle.helper_coins.specs.Helpers.{arrive_step}
use Rattle.boss_coins.specs.Bosses.{receive_step}
use Rattle.runs.specs.System.{World, mail_at, no_mail, helper_at}
use Rattle.runs.specs.Letter.{view, is_of, is_work, post_of, Quiet, under_way, weigh, mailed, holdings_of, delayed, to_come}
use Rattle.runs.specs.Promise.{Laden, Taken, Welcome, Sound, Promised}
use Rattle.network.specs.Promise.{Alike}
use Rattle.network.proofs.Shuffles.{same_shuffled}

pub alike_back : {w v : World} → Alike w v → Alike v w
alike_back A = record { boss = sym A.boss; helpers = sym A.helpers; queues = λ s r. sym (A.queues s r) }

-- what is kept, by what is said of all
module _ {X : Type 0} (p : X → Bool) where
  abbrev pub Passing : (X → Type 0) → X → Type 0
  Passing P x = p x ≡ true → P x

  all_kept : (P : X → Type 0) (xs : List X) → All (Passing P) xs → All P (filter p xs)
  all_kept P [] h = All-nil P
  all_kept P (x ∷ xs) h = go (p x) refl (all_kept P xs (All-tail (Passing P) x xs h))
    where
      go : (b : Bool) → p x ≡ b → All P (filter p xs) → All P (cond (p x) (x ∷ filter p xs) (filter p xs))
      go true t rest = rw t (All-cons P x (filter p xs) (All-head (Passing P) x xs h t) rest)
      go false t rest = rw t rest

  pub kept_all : (P : X → Type 0) (xs : List X) → All P (filter p xs) → All (Passing P) xs
  kept_all P [] h = All-nil (Passing P)
  kept_all P (x ∷ xs) h = go (p x) refl (λ k. kept_all P xs k)
    where
      go : (b : Bool) → p x ≡ b → (All P (filter p xs) → All (Passing P) xs) → All (Passing P) (x ∷ xs)
      go true t rest =
          let k : All P (x ∷ filter p xs) = rw t at h in
          All-cons (Passing P) x xs (λ _. All-head P x (filter p xs) k) (rest (All-tail P x (filter p xs) k))
      go false t rest = All-cons (Passing P) x xs (λ u. absurd (let z : false ≡ true = sym t ∙ u in grind arith)) (rest (rw t at h))

  sum_kept : (f : X → ℕ) (xs : List X) → sum_by f (filter p xs) ≡ sum_by (λ x. cond (p x) (f x) 0) xs
  sum_kept f [] = refl
  sum_kept f (x ∷ xs) = go (p x) refl (sum_kept f xs) ∙ sym (sum_by-cons (λ y. cond (p y) (f y) 0) x xs)
    where
      go : (b : Bool) → p x ≡ b → sum_by f (filter p xs) ≡ sum_by (λ y. cond (p y) (f y) 0) xs → sum_by f (cond (p x) (x ∷ filter p xs) (filter p xs)) ≡ cond (p x) (f x) 0 + sum_by (λ y. cond (p y) (f y) 0) xs
      go true t rest = rw t (sum_by-cons f x (filter p xs) ∙ ap (λ n. f x + n) rest)
      go false t rest = rw t (omega (arith, rest))

-- shuffled lists, as far as a test goes
module _ {X : Type 0} (p : X → Bool) (xs ys : List X) (S : IsPermutation xs ys) where
  kept_sum : (f : X → ℕ) → sum_by f (filter p ys) ≡ sum_by f (filter p xs)
  kept_sum f = sum_kept p f ys ∙ sum_by-IsPermutation (λ x. cond (p x) (f x) 0) xs ys S ∙ sym (sum_kept p f xs)

  kept_every : (P : X → Type 0) → All P (filter p xs) → All P (filter p ys)
  kept_every P h = all_kept p P ys (All-permutation (Passing p P) xs ys S (kept_all p P xs h))

-- what alike worlds have in common
module _ (w v : World) (A : Alike w v) where
  pub same_messages : IsPermutation w.post v.post
  same_messages = same_shuffled w.post v.post A.queues

  -- what holds of each message of the one holds of each of the other
  pub each_message : (P : Mail → Type 0) → ((k : ℕ) → k < length w.post → P (mail_at w.post k)) → (k : ℕ) → k < length v.post → P (mail_at v.post k)
  each_message P h k l = All-get_or P v.post k no_mail l (All-permutation P w.post v.post same_messages (All-from_get_or P w.post no_mail h))

  pub alike_under : (n : ℕ) → under_way (view n v).post ≡ under_way (view n w).post
  unfolding under_way post_of
  alike_under n = kept_sum (is_of n) w.post v.post same_messages (λ m. coins_in m.kind)

  pub alike_mailed : (n : ℕ) → mailed (view n v).post ≡ mailed (view n w).post
  unfolding mailed post_of
  alike_mailed n = kept_sum (is_of n) w.post v.post same_messages (λ m. weigh m.kind)

  pub alike_none : (n : ℕ) → (view n w).post ≡ [] → (view n v).post ≡ []
  unfolding post_of
  alike_none n e = none_kept (post_of n v.post) (kept_every (is_of n) w.post v.post same_messages (λ _. ⊥) (rw e (All-nil (λ _. ⊥))))
    where
      none_kept : (xs : List Mail) → All (λ _. ⊥) xs → xs ≡ []
      none_kept [] h = refl
      none_kept (x ∷ xs) h = absurd (All-head (λ _. ⊥) x xs h)

  pub alike_to_come : (n : ℕ) → to_come (view n v) ≡ to_come (view n w)
  alike_to_come n = rw (← A.helpers) (ap (λ (k : ℕ). k + delayed (holdings_of n w.helpers)) (alike_mailed n))

  pub alike_quiet : (n : ℕ) → Quiet (view n w) → Quiet (view n v)
  unfolding post_of
  alike_quiet n Q =
      record { nobody = rw (← A.helpers) Q.nobody; nothing = kept_every (is_of n) w.post v.post same_messages (λ m. is_work m.kind ≡ false) Q.nothing }

  alike_sound : (n : ℕ) → Sound (view n w) → Sound (view n v)
  alike_sound n S =
      record {
        quiet = λ d. alike_quiet n (S.quiet (rw A.boss d));
        kept = rw (← A.boss, ← A.helpers, alike_under n) S.kept;
        paid = rw (← A.helpers) S.paid;
      }

  pub alike_promised : Promised w → Promised v
  alike_promised P =
      record {
        sound = λ n pos. alike_sound n (P.sound n pos);
        laden = each_message (λ m. Laden m.kind) P.laden;
        addressed = rw (← A.helpers) (each_message (λ m. (m.receiver.number ≡ boss_number → ⊥) → m.receiver.number < length w.helpers) P.addressed);
        helped = λ k i boss l e lt. rw (← A.helpers) (each_message (λ m. m.receiver.number ≡ i → Taken (arrive_step (helper_at w.helpers i) m.letter m.kind boss).taking)
            (λ k l e. P.helped k i boss l e (rw A.helpers lt)) k l e);
        received = λ k room l e. rw (← A.boss) (each_message (λ m. m.receiver.number ≡ boss_number → Welcome room (receive_step w.boss m.sender m.letter m.kind room).taking)
            (λ k l e. P.received k room l e) k l e);
      }

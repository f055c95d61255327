-- The promises.
use Rattle.std.proofs.Common.{◌≡◌, ℕ, zero, suc, ◌+◌, ◌<◌, ◌≤◌, Bool, true, false, cond, ◌&&◌, eqb, ltb, ◌⊎◌, List, [], ◌∷◌, length, get_or, sym, refl, ap, ◌∙◌, subst, inl, inr, ⊎_elim, arith, ltb-true, Ok, Err}
use mathlib.Core.Logic.{∥∥₁_elim, ∥∥₁_map}
use mathlib.Core.HLevel.{⊥_prop, Unit-prop}
use mathlib.Core.Bool.{Bool-set}
use native.Mathlib.Bridge.{le_prop}
use native.Mathlib.Nat.{ℕ_set}
use Rattle.std.proofs.lemmas.List.Elements.{All-get_or, All-from_get_or}
use Rattle.std.proofs.lemmas.Bool.{eqb-true, eqb-false}
use Rattle.std.proofs.lemmas.Bool.Decides.{eqb_tells}
use Rattle.coins.specs.declared.answer.Answer.TheVariants.{Done}
use Rattle.coins.specs.declared.mail.Kind.{Kind}
use Rattle.coins.specs.declared.mail.Kind.TheVariants.{Work, More, Back, NoMore, Ask}
use Rattle.coins.specs.declared.mail.Mail.{Mail}
use Rattle.coins.specs.Limits.{boss_number}
use Rattle.coins.specs.Letters.{place}
use Rattle.helper_coins.specs.Helpers.{arrive_step}
use Rattle.boss_coins.specs.Bosses.{is_open, say_step}
use Rattle.boss_coins.specs.Bosses.{Called as BossCalled}
use Rattle.runs.specs.System.{World, helper_at, mail_at, no_mail, Step, gives, says, shares, rests, flushes, comes, returns, Reach, then, Runs, still, onward}
use Rattle.runs.specs.Letter.{View, view, is_done, is_of, is_work, post_of, holding_at, Quiet, to_come}
use Rattle.coins.specs.Mails.{Taking}
use Rattle.coins.specs.declared.mail.Untaken.TheVariants.{Later, Refused}
use Rattle.runs.specs.Promise.{Laden, Taken, Welcome, Promised, Promise, DoneStays, StepsAreMoves, about, LettersApart, OnlyWorkWakes, is_give, arrivals, Ungiven, QuietGoesOn, QuietIsShort, QuietIsSaid}
use Rattle.runs.specs.Promise as promise
use Rattle.runs.proofs.Tables.{by_test, and_true, and_false}
use Rattle.runs.proofs.Counts.{clash}
use Rattle.runs.proofs.Rules.{FineKind, stays, sound, wakes}
use Rattle.runs.proofs.Quiets.{quiet_on, quiet_back, short}
use Rattle.runs.proofs.Books.{own_given, own_back}
use Rattle.runs.proofs.Views.{held_length}
use Rattle.runs.proofs.Turns.{Turn, Did}
use Rattle.runs.proofs.Always.{Whole, always, step_did, give_of, come_of, untouched, fine_at}
use Rattle.runs.proofs.Welcomes.{helper_takes, boss_takes}

laden_kind : (n : ℕ) (m : Mail) (k : Kind) → FineKind n m k → Laden k
laden_kind n m (Work c) f = f.1
laden_kind n m (More c) f = f.1
laden_kind n m (Back c) f = f.1
laden_kind n m NoMore f = tt
laden_kind n m Ask f = tt

addressed_kind : (n : ℕ) (m : Mail) (k : Kind) → FineKind n m k → (m.receiver.number ≡ boss_number → ⊥) → m.receiver.number < n
addressed_kind n m (Work c) f no-boss = f.0
addressed_kind n m (More c) f no-boss = f.0
addressed_kind n m (Back c) f no-boss = absurd (no-boss f.0)
addressed_kind n m NoMore f no-boss = f
addressed_kind n m Ask f no-boss = absurd (no-boss f.0)

pub promised : Promise
promised w r =
    record {
      sound = λ n pos. sound (view n w) (W.inv n pos);
      laden = λ k l. laden_kind _ (mail_at w.post k) (mail_at w.post k).kind (fine_at w W k l);
      addressed = λ k l no-boss. omega (arith, addressed_kind _ (mail_at w.post k) (mail_at w.post k).kind (fine_at w W k l) no-boss, held_length (mail_at w.post k).letter.number w.helpers);
      helped = λ k i boss l e. subst (λ (j : ℕ). j < length w.helpers → Taken (arrive_step (helper_at w.helpers j) (mail_at w.post k).letter (mail_at w.post k).kind boss).taking) e (helper_takes w W k l boss);
      received = λ k room l e. boss_takes w W k l room e;
    }
  where
    W : Whole w
    W = always r

-- The same, where it is only known that there is a run.
laden_prop : (k : Kind) → IsProp (Laden k)
laden_prop (Work c) = le_prop
laden_prop (More c) = le_prop
laden_prop (Back c) = le_prop
laden_prop NoMore = Unit-prop
laden_prop Ask = Unit-prop

taken_prop : (t : Taking) → IsProp (Taken t)
taken_prop (Ok p) = Unit-prop
taken_prop (Err Later) = ⊥_prop
taken_prop (Err (Refused why)) = ⊥_prop

welcome_prop : (room : ℕ) (t : Taking) → IsProp (Welcome room t)
welcome_prop room (Ok p) = Unit-prop
welcome_prop room (Err Later) = ℕ_set _ _
welcome_prop room (Err (Refused why)) = ⊥_prop

pub quiet_of : (v : View) → ∥ Quiet v ∥₁ → Quiet v
quiet_of v h =
    record {
      nobody = λ i. ∥∥₁_elim h (Bool-set _ _) (λ q. q.nobody i);
      nothing = All-from_get_or Calm v.post no_mail (λ k l. ∥∥₁_elim h (Bool-set _ _) (λ q. All-get_or Calm v.post k no_mail l q.nothing));
    }
  where
    Calm : Mail → Type 0
    Calm m = is_work m.kind ≡ false

pub promised_of : (w : World) → ∥ Reach w ∥₁ → Promised w
promised_of w h =
    record {
      sound = λ n pos. record {
        quiet = λ d. quiet_of (view n w) (∥∥₁_map h (λ r. ((promised w r).sound n pos).quiet d));
        kept = ∥∥₁_elim h (ℕ_set _ _) (λ r. ((promised w r).sound n pos).kept);
        paid = λ i b. ∥∥₁_elim h le_prop (λ r. ((promised w r).sound n pos).paid i b);
      };
      laden = λ k l. ∥∥₁_elim h (laden_prop _) (λ r. (promised w r).laden k l);
      addressed = λ k l no-boss. ∥∥₁_elim h le_prop (λ r. (promised w r).addressed k l no-boss);
      helped = λ k i boss l e lt. ∥∥₁_elim h (taken_prop _) (λ r. (promised w r).helped k i boss l e lt);
      received = λ k room l e. ∥∥₁_elim h (welcome_prop room _) (λ r. (promised w r).received k room l e);
    }

-- what a step is for a letter: a move, or nothing
is_give_about : {w v : World} (n : ℕ) (s : Step w v) → is_give n s ≡ (give_of s && eqb (about s) n)
is_give_about n (gives w letter to room i) = refl
is_give_about n (says w letter) = refl
is_give_about n (shares w i letter to peer boss l r) = refl
is_give_about n (rests w i letter boss l) = refl
is_give_about n (flushes w i boss l) = refl
is_give_about n (comes w k i boss h p f r l e) = refl
is_give_about n (returns w k room b p f r e) = refl

are_arrivals : {w v : World} (n : ℕ) (s : Step w v) → arrivals n s ≡ cond (eqb (about s) n) (come_of s) 0
are_arrivals n (gives w letter to room i) = by_test (λ x. 0 ≡ x) (eqb letter.number n) 0 0 (λ _. refl) (λ _. refl)
are_arrivals n (says w letter) = by_test (λ x. 0 ≡ x) (eqb letter.number n) 0 0 (λ _. refl) (λ _. refl)
are_arrivals n (shares w i letter to peer boss l r) = by_test (λ x. 0 ≡ x) (eqb letter.number n) 0 0 (λ _. refl) (λ _. refl)
are_arrivals n (rests w i letter boss l) = by_test (λ x. 0 ≡ x) (eqb letter.number n) 0 0 (λ _. refl) (λ _. refl)
are_arrivals n (flushes w i boss l) = by_test (λ x. 0 ≡ x) (eqb (about (flushes w i boss l)) n) 0 0 (λ _. refl) (λ _. refl)
are_arrivals n (comes w k i boss h p f r l e) = refl
are_arrivals n (returns w k room b p f r e) = refl

pub see : {w v : World} (s : Step w v) → Whole w → (n : ℕ) → 1 ≤ n → Turn (is_give n s) (arrivals n s) (view n w) (view n v) ⊎ ((view n v ≡ view n w) × (arrivals n s ≡ 0))
see {w} {v} s W n pos =
    elim (eqb_tells (about s) n) [
      | inl t ↦
          let g : is_give n s ≡ give_of s = is_give_about n s ∙ ap (λ (b : Bool). give_of s && b) t.0 ∙ and_true (give_of s) in
          let c : arrivals n s ≡ come_of s = are_arrivals n s ∙ ap (λ (b : Bool). cond b (come_of s) 0) t.0 in
          subst (λ (m : ℕ). Turn (is_give n s) (arrivals n s) (view m w) (view m v) ⊎ ((view m v ≡ view m w) × (arrivals n s ≡ 0))) t.1
          (subst (λ (b : Bool). Turn b (arrivals n s) (view (about s) w) (view (about s) v) ⊎ ((view (about s) v ≡ view (about s) w) × (arrivals n s ≡ 0))) (sym g)
          (subst (λ (x : ℕ). Turn (give_of s) x (view (about s) w) (view (about s) v) ⊎ ((view (about s) v ≡ view (about s) w) × (x ≡ 0))) (sym c) (D.own (omega (arith, t.1)))))
      | inr t ↦
          let g : is_give n s ≡ false = is_give_about n s ∙ ap (λ (b : Bool). give_of s && b) t.0 ∙ and_false (give_of s) in
          let c : arrivals n s ≡ 0 = are_arrivals n s ∙ ap (λ (b : Bool). cond b (come_of s) 0) t.0 in
          subst (λ (b : Bool). Turn b (arrivals n s) (view n w) (view n v) ⊎ ((view n v ≡ view n w) × (arrivals n s ≡ 0))) (sym g)
          (subst (λ (x : ℕ). Turn false x (view n w) (view n v) ⊎ ((view n v ≡ view n w) × (x ≡ 0))) (sym c)
          (away (untouched (view n w) (view n v) (D.others n pos (λ q. t.1 (sym q))).0 (D.others n pos (λ q. t.1 (sym q))).1)))
    ]
  where
    D : Did (about s) (give_of s) (come_of s) w v
    D = step_did s W

    away : Turn false 0 (view n w) (view n v) ⊎ (view n v ≡ view n w) → Turn false 0 (view n w) (view n v) ⊎ ((view n v ≡ view n w) × (◌≡◌ {A = ℕ} 0 0))
    away (inl t) = inl t
    away (inr e) = inr (e, refl)

pub steps_are_moves : StepsAreMoves
steps_are_moves w v r s n pos = ⊎_elim (λ t. inl t.move) (λ e. inr e.0) (see s (always r) n pos)

pub letters_apart : LettersApart
letters_apart w v r s n pos ne = ((step_did s (always r)).others n pos (λ q. ne (sym q))).0

-- a message of the letter is among all messages
found : (n : ℕ) (ms : List Mail) (k : ℕ) → k < length (post_of n ms) → (j : ℕ) × (j < length ms) × (mail_at ms j ≡ mail_at (post_of n ms) k) × (is_of n (mail_at ms j) ≡ true)
unfolding post_of
found n [] k l = absurd (omega arith)
found n (m ∷ ms) k l = go (is_of n m) refl k (λ j h. found n ms j h) l
  where
    go : (b : Bool) → is_of n m ≡ b → (k : ℕ) → ((j : ℕ) → j < length (post_of n ms) → (i : ℕ) × (i < length ms) × (mail_at ms i ≡ mail_at (post_of n ms) j) × (is_of n (mail_at ms i) ≡ true)) →
        k < length (cond (is_of n m) (m ∷ post_of n ms) (post_of n ms)) → (j : ℕ) × (j < suc (length ms)) × (mail_at (m ∷ ms) j ≡ mail_at (cond (is_of n m) (m ∷ post_of n ms) (post_of n ms)) k) × (is_of n (mail_at (m ∷ ms) j) ≡ true)
    go true e zero rest l = (0, omega arith, rw e, e)
    go true e (suc k) rest l = let h : suc k < suc (length (post_of n ms)) = rw e at l in let r = rest k (omega arith) in (suc r.0, omega (arith, r.1), r.2 ∙ rw e, r.3)
    go false e k rest l = let r = rest k (rw e at l) in (suc r.0, omega (arith, r.1), r.2 ∙ rw e, r.3)

pub only_work_wakes : OnlyWorkWakes
only_work_wakes w v r s n i pos f t =
    elim (steps_are_moves w v r s n pos) [
      | inl m ↦
          let x = wakes m i f t in
          let y = found n w.post x.0 x.1 in
          (y.0, y.1, ap (λ (a : Mail). a.receiver.number) y.2 ∙ x.2, eqb-true _ n y.3, ap (λ (a : Mail). is_work a.kind) y.2 ∙ x.3)
      | inr e ↦ absurd (let z : (holding_at (view n w).holdings i).working ≡ true = ap (λ (u : View). (holding_at u.holdings i).working) (sym e) ∙ t in clash z f)
    ]

pub reach_on : {w v : World} → Reach w → Runs w v → Reach v
reach_on r still = r
reach_on r (onward q s) = then (reach_on r q) s

pub runs_then : {w v u : World} → Runs w v → Runs v u → Runs w u
runs_then p still = p
runs_then p (onward q s) = onward (runs_then p q) s

done_next : {w v : World} → Reach w → Step w v → (n : ℕ) → 1 ≤ n → is_done w.boss n ≡ true → is_done v.boss n ≡ true
done_next {w} {v} r s n pos d =
    elim (steps_are_moves w v r s n pos) [ inl m ↦ stays m d | inr e ↦ ap (λ (u : View). u.done) e ∙ d ]

done_run : {w v : World} → Reach w → Runs w v → (n : ℕ) → 1 ≤ n → is_done w.boss n ≡ true → is_done v.boss n ≡ true
done_run r still n pos d = d
done_run r (onward q s) n pos d = done_next (reach_on r q) s n pos (done_run r q n pos d)

pub done_stays : DoneStays
done_stays w v r q n pos d =
    let d' : is_done v.boss n ≡ true = done_run r q n pos d in
    let W : Whole v = always (reach_on r q) in
    (d', (W.inv n pos).over d', (sound (view n v) (W.inv n pos)).quiet d')

-- a quiet world, and a run with no new give of the letter
goes_on : {letter : ℕ} {w v : World} {n : ℕ} → 1 ≤ letter → Reach w → Quiet (view letter w) → Ungiven letter w v n → Reach v × Quiet (view letter v) × (n + to_come (view letter v) ≤ to_come (view letter w))
goes_on pos r q promise.still = (r, q, omega arith)
goes_on {letter} pos r q (promise.onward {w} {v} {u} {n} run s g) =
    let before : Reach v × Quiet (view letter v) × (n + to_come (view letter v) ≤ to_come (view letter w)) = goes_on pos r q run in
    elim (see s (always before.0) letter pos) [
      | inl t ↦
          let after = quiet_on t.move (t.giving_is ∙ g) before.1 in
          (then before.0 s, after.0, omega (arith, after.1, before.2, t.coming_is))
      | inr e ↦ (then before.0 s, subst Quiet (sym e.0) before.1, omega (arith, before.2, e.1, ap to_come e.0))
    ]

pub quiet_goes_on : QuietGoesOn
quiet_goes_on w v n letter pos r q run = let x = goes_on pos r q run in (x.1, x.2)

pub quiet_is_said : QuietIsSaid
quiet_is_said w letter pos r q none ready = (e, say)
  where
    n : ℕ
    n = letter.number

    W : Whole w
    W = always r

    e : (view letter.number w).given ≡ (view letter.number w).back
    e = quiet_back (view n w) (W.inv n pos) q none ready

    say : is_open w.boss letter.number ≡ true → (say_step w.boss letter).outcome.answer ≡ Done
    say o =
        by_test (λ (d : BossCalled). d.outcome.answer ≡ Done) (ltb (place w.boss.letters n) 64) _ _
        (λ t. let l : place w.boss.letters n < 64 = ltb-true _ _ t in
        by_test (λ (d : BossCalled). d.outcome.answer ≡ Done) (eqb (get_or w.boss.given (place w.boss.letters n) 0) (get_or w.boss.back (place w.boss.letters n) 0)) _ _ (λ _. refl)
        (λ f. absurd (eqb-false _ _ f (sym (own_given w.boss W.order.boss n l) ∙ e ∙ own_back w.boss W.order.boss n l))))
        (λ f. clash o f)

pub quiet_is_short : QuietIsShort
quiet_is_short = short

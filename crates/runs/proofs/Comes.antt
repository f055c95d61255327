-- What it is for each letter when a message comes to a helper.
use Rattle.std.proofs.Common.{◌≡◌, ℕ, suc, ◌<◌, ◌≤◌, Bool, true, false, not, ◌&&◌, eqb, ltb, List, [], ◌∷◌, ◌++◌, length, take, drop, sym, refl, ap, ◌∙◌, subst, arith, ltb-true, None, Ok, Option, Some, Err}
use Rattle.std.specs.List.{remove}
use Rattle.std.proofs.lemmas.List.Elements.{All-push, All-get_or}
use Rattle.std.proofs.lemmas.Bool.{eq-eqb, ne_eqb}
use Rattle.std.proofs.lemmas.Bool.Decides.{nat_tests}
use Rattle.coins.specs.declared.ids.LetterId.{LetterId}
use Rattle.coins.specs.declared.mail.Kind.{Kind}
use Rattle.coins.specs.declared.mail.Kind.TheVariants.{Work, More, Back, NoMore, Ask}
use Rattle.coins.specs.declared.mail.Mail.{Mail}
use Rattle.coins.specs.Mails.{Taking}
use Rattle.coins.specs.declared.mail.Untaken.TheVariants.{Later, Refused}
use Rattle.helper_coins.specs.declared.helper.Helper.{Helper}
use Rattle.helper_coins.specs.declared.holding.Holding.{Holding}
use Rattle.coins.specs.Letters.{place}
use Rattle.helper_coins.specs.Holdings.{idle, took, answered}
use Rattle.helper_coins.specs.Helpers.{TookIn, at, holding_of, slot_for, store, clear, counts, work_step, more_step, no_more_at, no_more_step, arrive_step}
use Rattle.runs.specs.System.{World, helper_at, mail_at, no_mail, helper_did, without}
use Rattle.runs.specs.Letter.{view, is_of, holdings_of, post_of, holding_at}
use Rattle.runs.specs.Moves.{now_has}
use Rattle.runs.proofs.Tables.{by_test}
use Rattle.runs.proofs.Holders.{Tidy, Changed, written, cleared, own, own_holding, stored, slot_fits, unchanged}
use Rattle.runs.proofs.Views.{held_get, held_length, send_own, send_other, split_own, gone_own, gone_other, all_gone}
use Rattle.runs.proofs.Turns.{Order, Turn, Did, helper_did_moves, turn_takes, turn_keeps, turn_hears, turn_declines}

counts_some : (x : Holding) (c : ℕ) → counts x c ≡ true → 1 ≤ c
counts_some x c e = grind (arith, nat_tests)

-- a letter without a place is idle
placeless : (h : Helper) (n : ℕ) → ltb (place h.letters n) 64 ≡ false → holding_of h n ≡ idle
placeless h n e = rw e

module _ (w : World) (O : Order w) (k : ℕ) (lk : k < length w.post) (lt : (mail_at w.post k).receiver.number < length w.helpers) where
  abbrev mail : Mail
  mail = mail_at w.post k

  abbrev n : ℕ
  n = (mail_at w.post k).letter.number

  abbrev i : ℕ
  i = (mail_at w.post k).receiver.number

  abbrev who : Helper
  who = helper_at w.helpers i

  abbrev before : List Mail
  before = post_of n (take k w.post)

  abbrev behind : List Mail
  behind = post_of n (drop (suc k) w.post)

  tidy : Tidy i who
  tidy = O.helpers i lt

  pos : 1 ≤ n
  pos = All-get_or (λ (m : Mail). 1 ≤ m.letter.number) w.post k no_mail lk O.numbered

  split : post_of n w.post ≡ before ++ mail ∷ behind
  split = split_own n w.post k lk (eq-eqb n n refl)

  seen : holding_at (holdings_of n w.helpers) i ≡ holding_of who n
  seen = held_get n w.helpers i lt

  in_view : i < length (holdings_of n w.helpers)
  in_view = omega (arith, held_length n w.helpers, lt)

  other : (m : ℕ) → (m ≡ n → ⊥) → is_of m mail ≡ false
  other m ne = ne_eqb n m (λ q. ne (sym q))

  -- it is taken, and nothing is sent
  takes : (x : Holding) (g : Helper) → Changed i n x who g → Turn false 1 (view n w) (now_has (view n w) i x (before ++ behind)) → Did n false 1 w (helper_did (without w k) i g None)
  takes x g C t =
      helper_did_moves w O i n 1 x g (remove w.post k) (before ++ behind) lt pos C (gone_own n w.post k)
      (λ m p ne. gone_other m w.post k lk (other m ne)) (all_gone (λ (m : Mail). 1 ≤ m.letter.number) w.post k O.numbered) t

  -- it is taken, and an answer of the same letter is sent
  replies : (x : Holding) (g : Helper) (r : Mail) → r.letter.number ≡ n → Changed i n x who g → Turn false 1 (view n w) (now_has (view n w) i x ((before ++ behind) ++ r ∷ [])) →
      Did n false 1 w (helper_did (without w k) i g (Some r))
  replies x g r e C t =
      helper_did_moves w O i n 1 x g (remove w.post k ++ r ∷ []) ((before ++ behind) ++ r ∷ []) lt pos C
      (send_own n (remove w.post k) r (eq-eqb _ n e) ∙ ap (λ (ms : List Mail). ms ++ r ∷ []) (gone_own n w.post k))
      (λ m p ne. send_other m (remove w.post k) r (ne_eqb _ m (λ q. ne (sym q ∙ e))) ∙ gone_other m w.post k lk (other m ne))
      (All-push (λ (m : Mail). 1 ≤ m.letter.number) (remove w.post k) r (all_gone (λ (m : Mail). 1 ≤ m.letter.number) w.post k O.numbered) (omega (arith, e, pos))) t

  -- what follows of a message that is taken
  abbrev pub Follows : Helper → Taking → Type 0
  Follows g (Ok p) = Did n false 1 w (helper_did (without w k) i g p)
  Follows g (Err Later) = Unit {0}
  Follows g (Err (Refused why)) = Unit {0}

  abbrev Arrives : TookIn → Type 0
  Arrives d = Follows d.helper d.taking

  letter : LetterId
  letter = (mail_at w.post k).letter

  work_did : (c : ℕ) → mail.kind ≡ Work c → Arrives (work_step who (mail_at w.post k).letter c)
  work_did c q =
      by_test Arrives (counts (holding_of who n) c) _ _
      (λ some. by_test Arrives (eqb n 0) _ _ (λ _. tt)
      (λ _. by_test Arrives (ltb (slot_for who n) 64) _ _
      (λ t. takes (took (holding_of who n) c) _
      (written i who tidy (slot_for who n) n (took (holding_of who n) c) (ltb-true _ _ t) pos (slot_fits i who tidy n pos (ltb-true _ _ t)) (omega (arith, counts_some (holding_of who n) c some)))
      (turn_takes (view n w) mail (holding_of who n) seen before behind split c (in_view, q)))
      (λ _. tt)))
      (λ _. tt)

  -- what goes back leaves the letter idle
  declined : Changed i n idle who (clear who (place who.letters n))
  declined =
      by_test (Changed i n idle who) (ltb (place who.letters n) 64) _ _
      (λ t. cleared i who tidy (place who.letters n) n (ltb-true _ _ t) pos (own i who tidy n (ltb-true _ _ t)))
      (λ f. subst (λ (x : Holding). Changed i n x who who) (placeless who n f) (unchanged i who tidy n))

  idle_ways : (a b : Bool) → not a && b ≡ true → a ≡ false
  idle_ways true b e = sym e
  idle_ways false b e = refl

  more_did : (c boss : ℕ) → mail.kind ≡ More c → Arrives (more_step who (mail_at w.post k).letter c boss)
  more_did c boss q =
      by_test Arrives (counts (holding_of who n) c) _ _
      (λ some. by_test Arrives (eqb n 0) _ _ (λ _. tt)
      (λ _. by_test Arrives (not (holding_of who n).working && ltb 0 boss) _ _
      (λ f. replies idle _ _ refl declined
      (turn_declines (view n w) mail (holding_of who n) seen before behind split _ c (in_view, q) (idle_ways _ _ f) (in_view, tidy.named, refl, refl)))
      (λ _. by_test Arrives (ltb (slot_for who n) 64) _ _
      (λ t. takes (answered (holding_of who n) c) _
      (written i who tidy (slot_for who n) n (answered (holding_of who n) c) (ltb-true _ _ t) pos (slot_fits i who tidy n pos (ltb-true _ _ t)) (omega (arith, counts_some (holding_of who n) c some)))
      (turn_keeps (view n w) mail (holding_of who n) seen before behind split c (in_view, q)))
      (λ _. tt))))
      (λ _. tt)

  no_more_did : mail.kind ≡ NoMore → Arrives (no_more_step who (mail_at w.post k).letter)
  no_more_did q = takes (answered (holding_of who n) 0) _ heard (turn_hears (view n w) mail (holding_of who n) seen before behind split (in_view, q))
    where
      heard : Changed i n (answered (holding_of who n) 0) who (no_more_at who (place who.letters n))
      heard =
          by_test (Changed i n (answered (holding_of who n) 0) who) (ltb (place who.letters n) 64) _ _
          (λ t. let l : place who.letters n < 64 = ltb-true _ _ t in
          subst (λ (x : Holding). Changed i n (answered x 0) who (store who (place who.letters n) (answered (at who.holdings (place who.letters n)) 0))) (sym (own_holding i who tidy n l))
          (stored i who tidy n (answered (at who.holdings (place who.letters n)) 0) l (omega (arith, tidy.used (place who.letters n) l (omega (arith, own i who tidy n l, pos))))))
          (λ f. subst (λ (x : Holding). Changed i n (answered x 0) who who) (sym (placeless who n f)) (subst (λ (x : Holding). Changed i n x who who) (placeless who n f) (unchanged i who tidy n)))

  by_kind : (boss : ℕ) (kind : Kind) → mail.kind ≡ kind → Arrives (arrive_step who (mail_at w.post k).letter kind boss)
  by_kind boss (Work c) q = work_did c q
  by_kind boss (More c) q = more_did c boss q
  by_kind boss NoMore q = no_more_did q
  by_kind boss (Back c) q = tt
  by_kind boss Ask q = tt

  pub come_did : (boss : ℕ) (g : Helper) (p : Option Mail) → arrive_step (helper_at w.helpers (mail_at w.post k).receiver.number) (mail_at w.post k).letter (mail_at w.post k).kind boss ≡ record { helper = g; taking = Ok p } →
      Did (mail_at w.post k).letter.number false 1 w (helper_did (without w k) (mail_at w.post k).receiver.number g p)
  come_did boss g p e = subst Arrives e (by_kind boss mail.kind refl)

-- What a helper's calls are for each letter.
use Rattle.std.proofs.Common.{◌≡◌, ℕ, ◌<◌, ◌≤◌, true, false, not, ◌&&◌, ◌||◌, eqb, ltb, List, [], ◌∷◌, ◌++◌, length, get_or, sym, refl, ap, ◌∙◌, subst, arith, ltb-false, ltb-true, None, Some}
use Rattle.std.proofs.lemmas.List.{set-get_or}
use Rattle.std.proofs.lemmas.List.Elements.{All-push}
use Rattle.std.proofs.lemmas.Bool.{eq-eqb, ne_eqb}
use Rattle.std.proofs.lemmas.Bool.Decides.{nat_tests}
use Rattle.std.proofs.lemmas.List.Sums.{passes_at_first}
use Rattle.coins.specs.declared.ids.LetterId.{LetterId}
use Rattle.coins.specs.declared.ids.NodeId.{NodeId}
use Rattle.coins.specs.declared.mail.Kind.TheVariants.{Back}
use Rattle.coins.specs.declared.mail.Mail.{Mail}
use Rattle.helper_coins.specs.declared.helper.Helper.{Helper}
use Rattle.helper_coins.specs.declared.holding.Holding.{Holding}
use Rattle.coins.specs.Limits.{boss_number}
use Rattle.coins.specs.Letters.{place}
use Rattle.helper_coins.specs.Holdings.{idle, kept, waiting, waits}
use Rattle.helper_coins.specs.Helpers.{Called, Flushed, at, write, share_at, share_step, rest_step, seek_waiting, flush_step}
use Rattle.runs.specs.System.{no_helper, World, helper_at, helper_did}
use Rattle.runs.specs.Letter.{view, holdings_of, post_of, holding_at}
use Rattle.runs.specs.Moves.{now_has}
use Rattle.runs.proofs.Tables.{by_test, placed, seek_apart, both_true, positive}
use Rattle.runs.proofs.Holders.{Tidy, Changed, held_at, own, own_holding, stored, cleared}
use Rattle.runs.proofs.Views.{held_get, held_length, send_own, send_other}
use Rattle.runs.proofs.Turns.{Order, Turn, Did, nothing_did, helper_did_moves, turn_shares, turn_asks, turn_rests, turn_flushes}

-- a holding whose coins wait has at least one
waits_coins : (x : Holding) → waits x ≡ true → 1 ≤ x.coins
waits_coins x e = grind (arith, nat_tests)

module _ (w : World) (O : Order w) (i : ℕ) (lt : i < length w.helpers) where
  abbrev who : Helper
  who = helper_at w.helpers i

  tidy : Tidy i (helper_at w.helpers i)
  tidy = O.helpers i lt

  -- a call that changes and sends nothing
  pub idles : (n : ℕ) → Did n false 0 w (helper_did w i (helper_at w.helpers i) None)
  idles n =
      subst (λ (hs : List Helper). Did n false 0 w (record { boss = w.boss; helpers = hs; post = w.post }))
      (sym (set-get_or w.helpers i no_helper)) (nothing_did n false w O)

  -- a call that changes the state of a letter, and sends a message of it
  sends : (m : Mail) (x : Holding) (g : Helper) → 1 ≤ m.letter.number → Changed i m.letter.number x (helper_at w.helpers i) g →
      Turn false 0 (view m.letter.number w) (now_has (view m.letter.number w) i x (post_of m.letter.number w.post ++ m ∷ [])) →
      Did m.letter.number false 0 w (helper_did w i g (Some m))
  sends m x g pos C t =
      let n = m.letter.number in
      helper_did_moves w O i n 0 x g (w.post ++ m ∷ []) (post_of n w.post ++ m ∷ []) lt pos C (send_own n w.post m (eq-eqb n n refl))
      (λ k p ne. send_other k w.post m (ne_eqb n k (λ q. ne (sym q)))) (All-push (λ (a : Mail). 1 ≤ a.letter.number) w.post m O.numbered pos) t

  -- what a letter that has a place sees of its helper
  seen : (n : ℕ) → place (helper_at w.helpers i).letters n < 64 → holding_at (holdings_of n w.helpers) i ≡ at (helper_at w.helpers i).holdings (place (helper_at w.helpers i).letters n)
  seen n l = held_get n w.helpers i lt ∙ own_holding i (helper_at w.helpers i) tidy n l

  in_view : (n : ℕ) → i < length (holdings_of n w.helpers)
  in_view n = omega (arith, held_length n w.helpers, lt)

  some_coins : (n : ℕ) → place (helper_at w.helpers i).letters n < 64 → 1 ≤ (at (helper_at w.helpers i).holdings (place (helper_at w.helpers i).letters n)).coins
  some_coins n l = tidy.used (place (helper_at w.helpers i).letters n) l (omega (arith, own i (helper_at w.helpers i) tidy n l, placed (helper_at w.helpers i).letters n l))

  abbrev CalledWell : ℕ → Called → Type 0
  CalledWell n d = Did n false 0 w (helper_did w i d.helper d.outcome.post)

  share_at_moves : (letter : LetterId) (to : NodeId) (peer boss : ℕ) → to.number < length w.helpers → place (helper_at w.helpers i).letters letter.number < 64 →
      CalledWell letter.number (share_at who letter to peer boss (place who.letters letter.number) (at who.holdings (place who.letters letter.number)))
  share_at_moves letter to peer boss lj l =
      by_test P x.working _ _
      (λ bz. by_test P (ltb x.coins 2) _ _
      (λ _. by_test P (x.asked || eqb boss 0) _ _ (λ _. idles n)
      (λ _. sends _ (waiting x) _ pos (stored i h tidy n (waiting x) l some)
      (turn_asks (view n w) _ i x (seen n l) bz (in_view n, tidy.named, refl, refl))))
      (λ co. by_test P (eqb to.number h.me.number) _ _ (λ _. idles n)
      (λ _. by_test P (eqb peer 0) _ _ (λ _. idles n)
      (λ _. sends _ (kept x) _ pos (stored i h tidy n (kept x) l (omega (arith, some)))
      (turn_shares (view n w) _ i x (seen n l) (in_view n) bz (ltb-false _ _ co) (omega (arith, held_length n w.helpers, lj), refl))))))
      (λ _. idles n)
    where
      n : ℕ
      n = letter.number

      h : Helper
      h = helper_at w.helpers i

      x : Holding
      x = at h.holdings (place h.letters n)

      P : Called → Type 0
      P d = CalledWell n d

      pos : 1 ≤ n
      pos = placed h.letters n l

      some : 1 ≤ x.coins
      some = some_coins n l

  pub share_did : (letter : LetterId) (to : NodeId) (peer boss : ℕ) → to.number < length w.helpers →
      Did letter.number false 0 w (helper_did w i (share_step (helper_at w.helpers i) letter to peer boss).helper (share_step (helper_at w.helpers i) letter to peer boss).outcome.post)
  share_did letter to peer boss lj =
      by_test (CalledWell letter.number) (ltb 255 to.number) _ _ (λ _. idles letter.number)
      (λ _. by_test (CalledWell letter.number) (ltb (place who.letters letter.number) 64) _ _
      (λ t. share_at_moves letter to peer boss lj (ltb-true _ _ t)) (λ _. idles letter.number))

  pub rest_did : (letter : LetterId) (boss : ℕ) →
      Did letter.number false 0 w (helper_did w i (rest_step (helper_at w.helpers i) letter boss).helper (rest_step (helper_at w.helpers i) letter boss).outcome.post)
  rest_did letter boss =
      by_test P (ltb (place who.letters n) 64) _ _
      (λ t. by_test P (at who.holdings (place who.letters n)).working _ _
      (λ bz. by_test P (eqb boss 0) _ _ (λ _. idles n)
      (λ _. let l : place who.letters n < 64 = ltb-true _ _ t in
      sends _ idle _ (placed who.letters n l) (cleared i who tidy (place who.letters n) n l (placed who.letters n l) (own i who tidy n l))
      (turn_rests (view n w) _ i (at who.holdings (place who.letters n)) (seen n l) bz (in_view n, tidy.named, refl, refl))))
      (λ _. idles n))
      (λ _. idles n)
    where
      n : ℕ
      n = letter.number

      P : Called → Type 0
      P d = CalledWell n d

  pub flush_did : (boss : ℕ) →
      Did (get_or (helper_at w.helpers i).letters (seek_waiting (helper_at w.helpers i).holdings) 0) false 0 w (helper_did w i (flush_step (helper_at w.helpers i) boss).helper (flush_step (helper_at w.helpers i) boss).post)
  flush_did boss =
      by_test (λ (d : Flushed). Did n false 0 w (helper_did w i d.helper d.post)) (ltb k 64 && not (eqb boss 0)) _ _ (λ t. go (ltb-true k 64 (both_true _ _ t).0)) (λ _. idles n)
    where
      k : ℕ
      k = seek_waiting who.holdings

      n : ℕ
      n = get_or who.letters k 0

      go : k < 64 → Did n false 0 w (helper_did w i (write who k 0 idle) (Some (record { sender = who.me; receiver = record { number = boss_number }; letter = record { number = n }; kind = Back (at who.holdings k).coins })))
      go l =
          let wt : waits (at who.holdings k) ≡ true = passes_at_first waits who.holdings idle (omega (arith, tidy.holdings)) in
          let co : 1 ≤ (at who.holdings k).coins = waits_coins (at who.holdings k) wt in
          let pos : 1 ≤ n = positive n (λ z. omega (arith, tidy.free k l z, co)) in
          let e : holding_at (holdings_of n w.helpers) i ≡ at who.holdings k = held_get n w.helpers i lt ∙ held_at i who n tidy pos ∙ ap (λ (j : ℕ). at who.holdings j) (seek_apart who.letters n k tidy.apart (omega (arith, tidy.letters)) refl pos) in
          sends (record { sender = who.me; receiver = record { number = boss_number }; letter = record { number = n }; kind = Back (at who.holdings k).coins }) idle (write who k 0 idle) pos (cleared i who tidy k n l pos refl)
          (turn_flushes (view n w) _ i (at who.holdings k) e wt (in_view n, tidy.named, refl, refl))

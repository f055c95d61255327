-- No message is turned away: a helper always has a place for it, and counts always fit.
use Rattle.std.proofs.Common.{◌≡◌, ℕ, suc, ◌+◌, ◌<◌, ◌≤◌, Bool, true, false, cond, not, ◌&&◌, ◌||◌, eqb, ltb, leb, List, ◌∷◌, ◌++◌, length, get_or, take, drop, sym, refl, ap, ◌∙◌, inl, inr, arith, ltb-false, ltb-true}
use Rattle.std.proofs.lemmas.List.{get_or_at, length-append}
use Rattle.std.proofs.lemmas.Bool.{eqb-true, eqb-false, eq-eqb}
use Rattle.std.proofs.lemmas.Bool.Decides.{nat_tests, leb_tells}
use Rattle.coins.specs.declared.mail.Kind.{Kind}
use Rattle.coins.specs.declared.mail.Kind.TheVariants.{Work, More, Back, NoMore, Ask}
use Rattle.coins.specs.declared.mail.Mail.{Mail}
use Rattle.helper_coins.specs.declared.helper.Helper.{Helper}
use Rattle.helper_coins.specs.declared.holding.Holding.{Holding}
use Rattle.coins.specs.Limits.{grant, limit, boss_number}
use Rattle.coins.specs.Mails.{coins_in}
use Rattle.coins.specs.Letters.{seek, place}
use Rattle.helper_coins.specs.Helpers.{at, holding_of, slot_for, counts, work_step, more_step, arrive_step}
use Rattle.helper_coins.specs.Helpers.{TookIn as HelperTook}
use Rattle.boss_coins.specs.Bosses.{is_open, back_step, ask_step, receive_step}
use Rattle.boss_coins.specs.Bosses.{TookIn as BossTook}
use Rattle.runs.specs.System.{World, helper_at, mail_at, no_mail}
use Rattle.runs.specs.Letter.{view, holdings_of, post_of, holding_at}
use Rattle.runs.specs.Promise.{Taken, Welcome}
use Rattle.runs.proofs.Tables.{by_test, seek_at, seek_before, seek_apart, place_seek, pigeons, positive}
use Rattle.runs.proofs.Holders.{held_at}
use Rattle.runs.proofs.Holders as holder
use Rattle.runs.proofs.Books.{open_is, own_given, own_back}
use Rattle.runs.proofs.Views.{held_get, held_length, split_own}
use Rattle.runs.proofs.Counts.{clash}
use Rattle.runs.proofs.Rules.{FineKind, coins_at, under_at}
use Rattle.runs.proofs.Always.{Whole, letter_pos, fine_at}

module _ (w : World) (W : Whole w) where
  -- a letter of which coins were given is open
  live_if : (n : ℕ) → 1 ≤ n → 1 ≤ (view n w).given → seek w.boss.letters n < 64
  live_if n pos some = by_live (is_open w.boss n) refl
    where
      by_live : (o : Bool) → is_open w.boss n ≡ o → seek w.boss.letters n < 64
      by_live true e = ltb-true (seek w.boss.letters n) 64 (sym (open_is w.boss n pos) ∙ e)
      by_live false e = absurd (let z = ((W.inv n pos).shut e).0 in omega arith)

  -- coins of a message and those of any helper are among those given
  within : (k : ℕ) → k < length w.post → (i : ℕ) →
      (holding_at (holdings_of (mail_at w.post k).letter.number w.helpers) i).coins + coins_in (mail_at w.post k).kind + (view (mail_at w.post k).letter.number w).back ≤ (view (mail_at w.post k).letter.number w).given
  within k l i =
      let n = (mail_at w.post k).letter.number in
      let a = post_of n (take k w.post) in
      let b = post_of n (drop (suc k) w.post) in
      let e : post_of n w.post ≡ a ++ mail_at w.post k ∷ b = split_own n w.post k l (eq-eqb n n refl) in
      let here : mail_at (post_of n w.post) (length a) ≡ mail_at w.post k = ap (λ (ms : List Mail). mail_at ms (length a)) e ∙ get_or_at a (mail_at w.post k) b no_mail (length a) refl in
      let inside : length a < length (post_of n w.post) = omega (arith, ap (λ (ms : List Mail). length ms) e, length-append a (mail_at w.post k ∷ b)) in
      omega (arith, under_at (view n w) (W.inv n (letter_pos w W k l)) (length a) inside i, ap (λ (m : Mail). coins_in m.kind) here)

  module _ (k : ℕ) (l : k < length w.post) (i : ℕ) (lt : i < length w.helpers) (some : 1 ≤ coins_in (mail_at w.post k).kind) where
    abbrev n : ℕ
    n = (mail_at w.post k).letter.number

    abbrev who : Helper
    who = helper_at w.helpers i

    tidy : holder.Tidy i (helper_at w.helpers i)
    tidy = W.order.helpers i lt

    abbrev desk : List ℕ
    desk = w.boss.letters

    letter_live : seek w.boss.letters (mail_at w.post k).letter.number < 64
    letter_live = live_if n (letter_pos w W k l) (omega (arith, within k l 0, some))

    -- where the helper has no free place, each of its 64 letters is open
    slot_live : (j : ℕ) → j < 64 → 1 ≤ get_or (helper_at w.helpers i).letters j 0 → seek w.boss.letters (get_or (helper_at w.helpers i).letters j 0) < 64
    slot_live j lj pos =
        let m = get_or who.letters j 0 in
        let e : holding_at (holdings_of m w.helpers) i ≡ at who.holdings j = held_get m w.helpers i lt ∙ held_at i who m tidy pos ∙ ap (λ (a : ℕ). at who.holdings a) (seek_apart who.letters m j tidy.apart (omega (arith, tidy.letters)) refl pos) in
        live_if m pos (omega (arith, tidy.used j lj pos, ap (λ (h : Holding). h.coins) e, coins_at (view m w) i (W.inv m pos)))

    -- the place on the boss's table of each of the helper's letters, and of the one that has come
    abbrev desk_place : ℕ → ℕ
    desk_place j = cond (eqb j 64) (seek desk n) (seek desk (get_or who.letters j 0))

    crowded : ((j : ℕ) → j < 64 → 1 ≤ get_or (helper_at w.helpers i).letters j 0) → ((j : ℕ) → j < 64 → get_or (helper_at w.helpers i).letters j 0 ≡ n → ⊥) → ⊥
    crowded full new =
        pigeons 64 desk_place
        (λ j lj. by_test (λ p. p < 64) (eqb j 64) (seek desk n) (seek desk (get_or who.letters j 0)) (λ _. letter_live)
        (λ e. let ne = eqb-false j 64 e in let lj' : j < 64 = omega arith in slot_live j lj' (full j lj')))
        (λ a b la lb. by_test (λ p. p ≡ desk_place b → a ≡ b) (eqb a 64) (seek desk n) (seek desk (get_or who.letters a 0))
        (λ e. by_test (λ p. seek desk n ≡ p → a ≡ b) (eqb b 64) (seek desk n) (seek desk (get_or who.letters b 0))
        (λ f _. eqb-true a 64 e ∙ sym (eqb-true b 64 f))
        (λ f q. absurd (let ne = eqb-false b 64 f in let lb' : b < 64 = omega arith in new b lb' (sym (one n (get_or who.letters b 0) letter_live (slot_live b lb' (full b lb')) q)))))
        (λ e. by_test (λ p. seek desk (get_or who.letters a 0) ≡ p → a ≡ b) (eqb b 64) (seek desk n) (seek desk (get_or who.letters b 0))
        (λ f q. absurd (let ne = eqb-false a 64 e in let la' : a < 64 = omega arith in new a la' (one (get_or who.letters a 0) n (slot_live a la' (full a la')) letter_live q)))
        (λ f q. let nea = eqb-false a 64 e in let neb = eqb-false b 64 f in let la' : a < 64 = omega arith in let lb' : b < 64 = omega arith in
        tidy.apart a b (omega (arith, tidy.letters)) (omega (arith, tidy.letters)) (one (get_or who.letters a 0) (get_or who.letters b 0) (slot_live a la' (full a la')) (slot_live b lb' (full b lb')) q) (full a la'))))
      where
        one : (x y : ℕ) → seek desk x < 64 → seek desk y < 64 → seek desk x ≡ seek desk y → x ≡ y
        one x y lx ly q =
            sym (seek_at desk x (omega (arith, W.order.boss.letters))) ∙ ap (λ (p : ℕ). get_or desk p 0) q ∙ seek_at desk y (omega (arith, W.order.boss.letters))

    -- a helper has a place for every letter of which coins are under way to it
    has_slot : slot_for (helper_at w.helpers i) (mail_at w.post k).letter.number < 64
    has_slot =
        by_test (λ p. p < 64) (ltb (place who.letters n) 64) (place who.letters n) (seek who.letters 0) (λ t. ltb-true _ _ t)
        (λ f. elim (leb_tells 64 (seek who.letters 0)) [
          | inl s ↦ absurd (crowded
              (λ j lj. positive (get_or who.letters j 0) (λ z. seek_before who.letters 0 j (omega (arith, s.1)) z))
              (λ j lj e. seek_before who.letters n j (omega (arith, ltb-false _ _ f, place_seek who.letters n (letter_pos w W k l))) e))
          | inr s ↦ s.1
        ])

    fits : (c : ℕ) → coins_in (mail_at w.post k).kind ≡ c → counts (holding_of (helper_at w.helpers i) (mail_at w.post k).letter.number) c ≡ true
    fits c e =
        let h = ap (λ (x : Holding). x.coins) (held_get n w.helpers i lt) in
        let a : (holding_of who n).coins + c < limit = omega (arith, within k l i, (W.inv n (letter_pos w W k l)).few, h, e) in
        let b : 1 ≤ c = omega (arith, some, e) in
        grind (arith, nat_tests)

    -- work is taken, and so are coins alone
    takes_work : (c : ℕ) → coins_in (mail_at w.post k).kind ≡ c → Taken (work_step (helper_at w.helpers i) (mail_at w.post k).letter c).taking
    takes_work c e =
        by_test P (counts (holding_of who n) c) _ _
        (λ _. by_test P (eqb n 0) _ _ (λ z. omega (arith, eqb-true n 0 z, letter_pos w W k l))
        (λ _. by_test P (ltb (slot_for who n) 64) _ _ (λ _. tt) (λ f. omega (arith, ltb-false _ _ f, has_slot))))
        (λ f. clash (fits c e) f)
      where
        P : HelperTook → Type 0
        P d = Taken d.taking

    takes_more : (c boss : ℕ) → coins_in (mail_at w.post k).kind ≡ c → Taken (more_step (helper_at w.helpers i) (mail_at w.post k).letter c boss).taking
    takes_more c boss e =
        by_test P (counts (holding_of who n) c) _ _
        (λ _. by_test P (eqb n 0) _ _ (λ z. omega (arith, eqb-true n 0 z, letter_pos w W k l))
        (λ _. by_test P (not (holding_of who n).working && ltb 0 boss) _ _ (λ _. tt)
        (λ _. by_test P (ltb (slot_for who n) 64) _ _ (λ _. tt) (λ f. omega (arith, ltb-false _ _ f, has_slot)))))
        (λ f. clash (fits c e) f)
      where
        P : HelperTook → Type 0
        P d = Taken d.taking

  -- a helper takes every message for it
  pub helper_takes : (k : ℕ) (l : k < length w.post) (boss : ℕ) → (mail_at w.post k).receiver.number < length w.helpers →
      Taken (arrive_step (helper_at w.helpers (mail_at w.post k).receiver.number) (mail_at w.post k).letter (mail_at w.post k).kind boss).taking
  helper_takes k l boss lt = by_kind (mail_at w.post k).kind refl (fine_at w W k l)
    where
      by_kind : (kind : Kind) → (mail_at w.post k).kind ≡ kind → FineKind (length (holdings_of (mail_at w.post k).letter.number w.helpers)) (mail_at w.post k) kind →
          Taken (arrive_step (helper_at w.helpers (mail_at w.post k).receiver.number) (mail_at w.post k).letter kind boss).taking
      by_kind (Work c) q f = takes_work k l (mail_at w.post k).receiver.number lt (omega (arith, ap coins_in q, f.1)) c (ap coins_in q)
      by_kind (More c) q f = takes_more k l (mail_at w.post k).receiver.number lt (omega (arith, ap coins_in q, f.1)) c boss (ap coins_in q)
      by_kind NoMore q f = tt
      by_kind (Back c) q f = omega (arith, f.0, lt, W.order.few)
      by_kind Ask q f = omega (arith, f.0, lt, W.order.few)

  -- the boss turns no message away
  pub boss_takes : (k : ℕ) (l : k < length w.post) (room : ℕ) → (mail_at w.post k).receiver.number ≡ boss_number →
      Welcome room (receive_step w.boss (mail_at w.post k).sender (mail_at w.post k).letter (mail_at w.post k).kind room).taking
  boss_takes k l room to = by_kind (mail_at w.post k).kind refl (fine_at w W k l)
    where
      n : ℕ
      n = (mail_at w.post k).letter.number

      P : BossTook → Type 0
      P d = Welcome room d.taking

      helpers_few : length (holdings_of (mail_at w.post k).letter.number w.helpers) ≤ 256
      helpers_few = omega (arith, held_length (mail_at w.post k).letter.number w.helpers, W.order.few)

      back : (c : ℕ) → coins_in (mail_at w.post k).kind ≡ c → 1 ≤ c → P (back_step w.boss (mail_at w.post k).letter c)
      back c e some =
          let pos = letter_pos w W k l in
          let in_all = within k l 0 in
          let here : seek w.boss.letters n < 64 = live_if n pos (omega (arith, in_all, e)) in
          let p : place w.boss.letters n < 64 = omega (arith, place_seek w.boss.letters n pos, here) in
          by_test P (eqb c 0 || leb 64 (place w.boss.letters n)) _ _ (λ f. clash f (neither c (place w.boss.letters n) some p))
          (λ _. by_test P (leb (get_or w.boss.back (place w.boss.letters n) 0 + c) (get_or w.boss.given (place w.boss.letters n) 0)) _ _ (λ _. tt)
          (λ f. omega (arith, leb_false (get_or w.boss.back (place w.boss.letters n) 0 + c) (get_or w.boss.given (place w.boss.letters n) 0) f, in_all, e, own_given w.boss W.order.boss n p, own_back w.boss W.order.boss n p)))
        where
          neither : (x y : ℕ) → 1 ≤ x → y < 64 → (eqb x 0 || leb 64 y) ≡ false
          neither x y a b = grind (arith, nat_tests)

          leb_false : (x y : ℕ) → leb x y ≡ false → y < x
          leb_false x y f = grind (arith, nat_tests)

      ask : P (ask_step w.boss (mail_at w.post k).sender (mail_at w.post k).letter room)
      ask =
          by_test P (eqb room 0) _ _ (λ z. eqb-true room 0 z)
          (λ _. by_test P (ltb (place w.boss.letters n) 64) _ _
          (λ _. by_test P (ltb (get_or w.boss.given (place w.boss.letters n) 0 + grant) limit) _ _ (λ _. tt) (λ _. tt)) (λ _. tt))

      by_kind : (kind : Kind) → (mail_at w.post k).kind ≡ kind → FineKind (length (holdings_of (mail_at w.post k).letter.number w.helpers)) (mail_at w.post k) kind →
          P (receive_step w.boss (mail_at w.post k).sender (mail_at w.post k).letter kind room)
      by_kind (Back c) q f = back c (ap coins_in q) f.1
      by_kind Ask q f = ask
      by_kind (Work c) q f = omega (arith, f.0, helpers_few, to)
      by_kind (More c) q f = omega (arith, f.0, helpers_few, to)
      by_kind NoMore q f = omega (arith, f, helpers_few, to)

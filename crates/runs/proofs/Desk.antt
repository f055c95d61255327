-- What the boss's calls, and the messages that come to it, are for each letter.
use Rattle.std.proofs.Common.{◌≡◌, ℕ, suc, ◌+◌, ◌<◌, ◌≤◌, Bool, true, false, ◌||◌, eqb, ltb, leb, List, [], ◌∷◌, ◌++◌, length, get_or, take, drop, sym, refl, ap, ◌∙◌, subst, arith, ltb-true, None, Ok, Option, Some, Err}
use Rattle.std.specs.List.{remove}
use Rattle.std.proofs.lemmas.List.Elements.{All-push, All-get_or}
use Rattle.std.proofs.lemmas.Bool.{eqb-true, eq-eqb, ne_eqb}
use Rattle.std.proofs.lemmas.Bool.Decides.{nat_tests}
use Rattle.coins.specs.declared.ids.LetterId.{LetterId}
use Rattle.coins.specs.declared.ids.NodeId.{NodeId}
use Rattle.coins.specs.declared.mail.Kind.{Kind}
use Rattle.coins.specs.declared.mail.Kind.TheVariants.{Work, More, Back, NoMore, Ask}
use Rattle.coins.specs.declared.mail.Mail.{Mail}
use Rattle.coins.specs.Mails.{Taking}
use Rattle.coins.specs.declared.mail.Untaken.TheVariants.{Later, Refused}
use Rattle.boss_coins.specs.declared.boss.Boss.{Boss}
use Rattle.coins.specs.Limits.{grant, limit, boss_number}
use Rattle.coins.specs.Letters.{seek, place}
use Rattle.boss_coins.specs.Bosses.{Called, TookIn, is_open, given_of, back_of, give_open, give_new, give_step, say_step, back_step, ask_step, receive_step}
use Rattle.runs.specs.System.{World, mail_at, no_mail, boss_did, without}
use Rattle.runs.specs.Letter.{view, is_of, is_done, holdings_of, post_of}
use Rattle.runs.specs.Moves.{ToBoss, gives, grants, denies, returns, says}
use Rattle.runs.proofs.Tables.{by_test, placed}
use Rattle.runs.proofs.Books.{Booked, unchanged, own_given, own_back, own_live, not_done, gave, returned, opened, closed}
use Rattle.runs.proofs.Views.{held_length, send_own, send_other, split_own, gone_own, gone_other, all_gone}
use Rattle.runs.proofs.Turns.{Order, Turn, Did, nothing_did, boss_did_moves}
use Rattle.runs.proofs.Rules.{FineKind}

-- a letter that is not open, above the highest, is not done
new_letter : (b : Boss) (n : ℕ) → b.highest < n → is_done b n ≡ false
new_letter b n l = let e : leb n b.highest ≡ false = grind (arith, nat_tests) in rw e

either_false : (a b : Bool) → a || b ≡ false → (a ≡ false) × (b ≡ false)
either_false false b e = (refl, e)
either_false true b e = (e, absurd (let z : ◌≡◌ {A = ℕ} 0 1 = cc in omega arith))

module _ (w : World) (O : Order w) where
  abbrev b : Boss
  b = w.boss

  -- a call that leaves an account like this, and sends a message of the letter
  sends : (m : Mail) (give live done : Bool) (given back : ℕ) (c : Boss) → 1 ≤ m.letter.number → Booked m.letter.number live done given back w.boss c →
      Turn give 0 (view m.letter.number w) (record { live = live; done = done; given = given; back = back; holdings = holdings_of m.letter.number w.helpers; post = post_of m.letter.number w.post ++ m ∷ [] }) →
      Did m.letter.number give 0 w (boss_did w c (Some m))
  sends m give live done given back c pos B t =
      let n = m.letter.number in
      boss_did_moves w O n 0 given back give live done c (w.post ++ m ∷ []) (post_of n w.post ++ m ∷ []) pos B (send_own n w.post m (eq-eqb n n refl))
      (λ k p ne. send_other k w.post m (ne_eqb n k (λ q. ne (sym q)))) (All-push (λ (a : Mail). 1 ≤ a.letter.number) w.post m O.numbered pos) t

  abbrev CalledWell : ℕ → Bool → Called → Type 0
  CalledWell n give d = Did n give 0 w (boss_did w d.boss d.outcome.post)

  give_open_moves : (letter : LetterId) (to : NodeId) (room : ℕ) → to.number < length w.helpers → place b.letters letter.number < 64 →
      CalledWell letter.number true (give_open b letter to room (place b.letters letter.number))
  give_open_moves letter to room lj l =
      by_test P (ltb (get_or b.given (place b.letters n) 0 + grant) limit) _ _
      (λ few. by_test P (eqb room 0) _ _ (λ _. nothing_did n true w O)
      (λ _. sends _ true true false (given_of b n + grant) (back_of b n) _ (placed b.letters n l) (gave b O.boss n l)
      (record { move = gives (view n w) _ (not_done b n (own_live b O.boss n l)) (omega (arith, own_given b O.boss n l, ltb-true _ _ few)) (omega (arith, held_length n w.helpers, lj), refl); giving_is = refl; coming_is = refl })))
      (λ _. nothing_did n true w O)
    where
      n : ℕ
      n = letter.number

      P : Called → Type 0
      P d = CalledWell n true d

  give_new_moves : (letter : LetterId) (to : NodeId) (room : ℕ) → to.number < length w.helpers → ltb (place b.letters letter.number) 64 ≡ false →
      CalledWell letter.number true (give_new b letter to room)
  give_new_moves letter to room lj out =
      by_test P (ltb b.highest n) _ _
      (λ new. by_test P (ltb (seek b.letters 0) 64) _ _
      (λ t. by_test P (eqb room 0) _ _ (λ _. nothing_did n true w O)
      (λ _. let up : b.highest < n = ltb-true _ _ new in
      sends _ true true false grant 0 _ (omega arith) (opened b O.boss n up (ltb-true _ _ t)) (begun _ up lj refl)))
      (λ _. nothing_did n true w O))
      (λ _. nothing_did n true w O)
    where
      n : ℕ
      n = letter.number

      P : Called → Type 0
      P d = CalledWell n true d

      none_given : given_of b n ≡ 0
      none_given = rw out

      none_back : back_of b n ≡ 0
      none_back = rw out

      begun : (m : Mail) → b.highest < n → m.receiver.number < length w.helpers →
          (k : m.kind ≡ Work grant) →
          Turn true 0 (view n w) (record { live = true; done = false; given = grant; back = 0; holdings = holdings_of n w.helpers; post = post_of n w.post ++ m ∷ [] })
      begun m up l k =
          subst (λ (x : ℕ). Turn true 0 (view n w) (record { live = true; done = false; given = grant; back = x; holdings = holdings_of n w.helpers; post = post_of n w.post ++ m ∷ [] })) none_back
          (subst (λ (x : ℕ). Turn true 0 (view n w) (record { live = true; done = false; given = x; back = back_of b n; holdings = holdings_of n w.helpers; post = post_of n w.post ++ m ∷ [] })) (omega (arith, none_given))
          (record { move = gives (view n w) m (new_letter b n up) (omega (arith, none_given)) (omega (arith, held_length n w.helpers, l), k); giving_is = refl; coming_is = refl }))

  pub give_did : (letter : LetterId) (to : NodeId) (room : ℕ) → to.number < length w.helpers →
      Did letter.number true 0 w (boss_did w (give_step w.boss letter to room).boss (give_step w.boss letter to room).outcome.post)
  give_did letter to room lj =
      by_test (CalledWell letter.number true) (ltb 255 to.number) _ _ (λ _. nothing_did letter.number true w O)
      (λ _. by_test (CalledWell letter.number true) (ltb (place b.letters letter.number) 64) _ _
      (λ t. give_open_moves letter to room lj (ltb-true _ _ t)) (λ f. give_new_moves letter to room lj f))

  pub say_did : (letter : LetterId) →
      Did letter.number false 0 w (boss_did w (say_step w.boss letter).boss (say_step w.boss letter).outcome.post)
  say_did letter =
      by_test P (ltb (place b.letters n) 64) _ _
      (λ t. by_test P (eqb (get_or b.given (place b.letters n) 0) (get_or b.back (place b.letters n) 0)) _ _
      (λ e. let l : place b.letters n < 64 = ltb-true _ _ t in
      boss_did_moves w O n 0 0 0 false false true _ w.post (post_of n w.post) (placed b.letters n l) (closed b O.boss n l) refl (λ m p ne. refl) O.numbered
      (record { move = says (view n w) (own_live b O.boss n l) (own_given b O.boss n l ∙ eqb-true _ _ e ∙ sym (own_back b O.boss n l)); giving_is = refl; coming_is = refl }))
      (λ _. nothing_did n false w O))
      (λ _. nothing_did n false w O)
    where
      n : ℕ
      n = letter.number

      P : Called → Type 0
      P d = CalledWell n false d

module _ (w : World) (O : Order w) (k : ℕ) (lk : k < length w.post) (to : (mail_at w.post k).receiver.number ≡ boss_number)
    (fine : FineKind (length (holdings_of (mail_at w.post k).letter.number w.helpers)) (mail_at w.post k) (mail_at w.post k).kind) where
  abbrev mail : Mail
  mail = mail_at w.post k

  abbrev n : ℕ
  n = (mail_at w.post k).letter.number

  abbrev desk : Boss
  desk = w.boss

  abbrev before : List Mail
  before = post_of n (take k w.post)

  abbrev behind : List Mail
  behind = post_of n (drop (suc k) w.post)

  pos : 1 ≤ n
  pos = All-get_or (λ (m : Mail). 1 ≤ m.letter.number) w.post k no_mail lk O.numbered

  split : post_of n w.post ≡ before ++ mail ∷ behind
  split = split_own n w.post k lk (eq-eqb n n refl)

  other : (m : ℕ) → (m ≡ n → ⊥) → is_of m mail ≡ false
  other m ne = ne_eqb n m (λ q. ne (sym q))

  -- it is taken, and nothing is sent
  takes : (given back : ℕ) (c : Boss) → Booked n true false given back w.boss c →
      Turn false 1 (view n w) (record { live = true; done = false; given = given; back = back; holdings = holdings_of n w.helpers; post = before ++ behind }) →
      Did n false 1 w (boss_did (without w k) c None)
  takes given back c B t =
      boss_did_moves w O n 1 given back false true false c (remove w.post k) (before ++ behind) pos B (gone_own n w.post k)
      (λ m p ne. gone_other m w.post k lk (other m ne)) (all_gone (λ (m : Mail). 1 ≤ m.letter.number) w.post k O.numbered) t

  -- it is taken, and an answer of the same letter is sent
  replies : (live done : Bool) (given back : ℕ) (c : Boss) (r : Mail) → r.letter.number ≡ n → Booked n live done given back w.boss c →
      Turn false 1 (view n w) (record { live = live; done = done; given = given; back = back; holdings = holdings_of n w.helpers; post = (before ++ behind) ++ r ∷ [] }) →
      Did n false 1 w (boss_did (without w k) c (Some r))
  replies live done given back c r e B t =
      boss_did_moves w O n 1 given back false live done c (remove w.post k ++ r ∷ []) ((before ++ behind) ++ r ∷ []) pos B
      (send_own n (remove w.post k) r (eq-eqb _ n e) ∙ ap (λ (ms : List Mail). ms ++ r ∷ []) (gone_own n w.post k))
      (λ m p ne. send_other m (remove w.post k) r (ne_eqb _ m (λ q. ne (sym q ∙ e))) ∙ gone_other m w.post k lk (other m ne))
      (All-push (λ (m : Mail). 1 ≤ m.letter.number) (remove w.post k) r (all_gone (λ (m : Mail). 1 ≤ m.letter.number) w.post k O.numbered) (omega (arith, e, pos))) t

  abbrev Follows : Boss → Taking → Type 0
  Follows c (Ok p) = Did n false 1 w (boss_did (without w k) c p)
  Follows c (Err Later) = Unit {0}
  Follows c (Err (Refused why)) = Unit {0}

  abbrev Arrives : TookIn → Type 0
  Arrives d = Follows d.boss d.taking

  -- while the letter has a place it is open and not done
  live_view : (l : place desk.letters n < 64) (given back : ℕ) (ms : List Mail) →
      Turn false 1 (view n w) (record { live = is_open desk n; done = is_done desk n; given = given; back = back; holdings = holdings_of n w.helpers; post = ms }) →
      Turn false 1 (view n w) (record { live = true; done = false; given = given; back = back; holdings = holdings_of n w.helpers; post = ms })
  live_view l given back ms t =
      let x = own_live desk O.boss n l in
      let y = not_done desk n x in
      subst (λ (d : Bool). Turn false 1 (view n w) (record { live = true; done = d; given = given; back = back; holdings = holdings_of n w.helpers; post = ms })) y
      (subst (λ (o : Bool). Turn false 1 (view n w) (record { live = o; done = is_done desk n; given = given; back = back; holdings = holdings_of n w.helpers; post = ms })) x t)

  back_did : (c : ℕ) → mail.kind ≡ Back c → Arrives (back_step desk (mail_at w.post k).letter c)
  back_did c q =
      by_test Arrives (eqb c 0 || leb 64 (place desk.letters n)) _ _ (λ _. tt)
      (λ e. by_test Arrives (leb (get_or desk.back (place desk.letters n) 0 + c) (get_or desk.given (place desk.letters n) 0)) _ _
      (λ _. let l = inside (either_false _ _ e).1 in
      takes (given_of desk n) (back_of desk n + c) _ (returned desk O.boss n c l)
      (live_view l (given_of desk n) (back_of desk n + c) (before ++ behind) (record { move = returns (view n w) mail c before behind split to q; giving_is = refl; coming_is = refl })))
      (λ _. tt))
    where
      inside : leb 64 (place desk.letters n) ≡ false → place desk.letters n < 64
      inside e = grind (arith, nat_tests)

  ask_did : (room : ℕ) → mail.kind ≡ Ask → mail.sender.number < length (holdings_of n w.helpers) → Arrives (ask_step desk (mail_at w.post k).sender (mail_at w.post k).letter room)
  ask_did room q from =
      by_test Arrives (eqb room 0) _ _ (λ _. tt)
      (λ _. by_test Arrives (ltb (place desk.letters n) 64) _ _
      (λ t. by_test Arrives (ltb (get_or desk.given (place desk.letters n) 0 + grant) limit) _ _
      (λ few. let l : place desk.letters n < 64 = ltb-true _ _ t in
      replies true false (given_of desk n + grant) (back_of desk n) _ _ refl (gave desk O.boss n l)
      (live_view l (given_of desk n + grant) (back_of desk n) _
      (record { move = grants (view n w) mail _ before behind split asked (own_live desk O.boss n l) (omega (arith, own_given desk O.boss n l, ltb-true _ _ few)) refl refl; giving_is = refl; coming_is = refl })))
      (λ _. denied))
      (λ _. denied))
    where
      asked : ToBoss (view n w) mail.sender.number mail Ask
      asked = (from, refl, to, q)

      denied : Did n false 1 w (boss_did (without w k) desk (Some (record { sender = record { number = boss_number }; receiver = (mail_at w.post k).sender; letter = (mail_at w.post k).letter; kind = NoMore })))
      denied =
          replies (is_open desk n) (is_done desk n) (given_of desk n) (back_of desk n) desk _ refl (unchanged n desk O.boss)
          (record { move = denies (view n w) mail _ before behind split asked refl refl; giving_is = refl; coming_is = refl })

  by_kind : (room : ℕ) (kind : Kind) → mail.kind ≡ kind → FineKind (length (holdings_of n w.helpers)) mail kind → Arrives (receive_step desk (mail_at w.post k).sender (mail_at w.post k).letter kind room)
  by_kind room (Back c) q f = back_did c q
  by_kind room Ask q f = ask_did room q f.1
  by_kind room (Work c) q f = tt
  by_kind room (More c) q f = tt
  by_kind room NoMore q f = tt

  pub return_did : (room : ℕ) (c : Boss) (p : Option Mail) → receive_step w.boss (mail_at w.post k).sender (mail_at w.post k).letter (mail_at w.post k).kind room ≡ record { boss = c; taking = Ok p } →
      Did (mail_at w.post k).letter.number false 1 w (boss_did (without w k) c p)
  return_did room c p e = subst Arrives e (by_kind room mail.kind refl fine)

-- What is read was written of a message that can be.
use Rattle.std.proofs.Common.{◌≡◌, ℕ, ◌+◌, ◌^◌, ◌<◌, ◌≤◌, Bool, true, false, cond, ◌&&◌, ◌||◌, eqb, leb, List, [], ◌∷◌, ◌++◌, length, get_or, drop, Some, None, sym, refl, ap, ◌∙◌, subst, ⊎_elim, arith, length-drop}
use Rattle.std.proofs.lemmas.List.{append-nil, drop_all, drop_more}
use Rattle.std.proofs.lemmas.List.Elements.{All-drop}
use Rattle.std.proofs.lemmas.Bool.{and_parts, leb-true, eqb-true, cond_both, cases_eq, true≢false}
use Rattle.std.proofs.lemmas.Bool.Decides.{nat_tests}
use Rattle.coins.specs.Mails.{coins_in}
use Rattle.coins.specs.declared.mail.Kind.TheVariants.{Back, NoMore}
use Rattle.wire.specs.declared.message.Body.TheVariants.{Numbered}
use Rattle.wire.specs.Numbers.{number_bytes, number_at}
use Rattle.wire.specs.Messages.{Msg, body_number, body_coins}
use Rattle.wire.specs.Rules.{Sound, AllBytes, goes, is_paid, has_work}
use Rattle.wire.specs.Bytes.{rest, encode, span, is_whole, back_of, body_of, message_at, is_fine, decode}
use Rattle.wire.specs.Theorems.{ReadIsWritten}
use Rattle.wire.proofs.Numbers.{number_at_lt, bytes_number_at}

-- the kinds that there are, each with its length: v bytes of work, n in all
data Shape (v n : ℕ) : ℕ → Type 0 where
  of_work : n ≡ 27 + v → Shape v n 1
  of_more : n ≡ 25 → Shape v n 2
  of_back : n ≡ 25 → Shape v n 3
  of_ask : n ≡ 17 → Shape v n 4
  of_taken : n ≡ 17 → Shape v n 5

-- a whole message has one of them
shape : (k v n : ℕ) → 17 ≤ n → n ≡ cond (eqb k 1) (27 + v) (cond (eqb k 2 || eqb k 3) 25 (cond (eqb k 4 || eqb k 5) 17 0)) → Shape v n k
shape k v n l h =
    ⊎_elim (λ e. known e (of_work (grind (arith, nat_tests))))
    (λ a. ⊎_elim (λ e. known e (of_more (grind (arith, nat_tests))))
    (λ b. ⊎_elim (λ e. known e (of_back (grind (arith, nat_tests))))
    (λ c. ⊎_elim (λ e. known e (of_ask (grind (arith, nat_tests))))
    (λ d. ⊎_elim (λ e. known e (of_taken (grind (arith, nat_tests)))) (λ f. absurd (grind (arith, nat_tests)))
    (cases_eq k 5))
    (cases_eq k 4))
    (cases_eq k 3))
    (cases_eq k 2))
    (cases_eq k 1)
  where
    known : {j : ℕ} → k ≡ j → Shape v n j → Shape v n k
    known e s = rw e s

-- the coins of a message that goes back, whether there are any or none
back_rest : (c : ℕ) (w : List ℕ) → body_number (Numbered (back_of c)) ∷ rest (Numbered (back_of c)) w ≡ 3 ∷ number_bytes 8 c
back_rest c w =
    cond_both (eqb c 0) NoMore (Back c) (λ k. body_number (Numbered k) ∷ rest (Numbered k) w ≡ 3 ∷ number_bytes 8 c)
    (λ e. rw (eqb-true c 0 e)) (λ e. refl)

module _ (bs : List ℕ) (all : AllBytes bs) where
  -- coins that end the message
  coins_back : length bs ≡ 25 → number_bytes 8 (number_at 8 bs 17) ≡ drop 17 bs
  coins_back e =
      let none : drop 25 bs ≡ [] = drop_all 25 bs (omega arith) in
      sym (append-nil (number_bytes 8 (number_at 8 bs 17))) ∙ (rw none at (bytes_number_at 8 bs 17 all (omega arith)))

  -- from the kind on
  tail_back : {k : ℕ} → Shape (number_at 2 bs 25) (length bs) k →
      body_number (body_of k (number_at 8 bs 17)) ∷ rest (body_of k (number_at 8 bs 17)) (drop 27 bs) ≡ k ∷ drop 17 bs
  tail_back (of_work e) =
      let given : length (drop 27 bs) ≡ number_at 2 bs 25 = simp length-drop (omega arith) in
      let l : 25 + 2 ≤ length bs = omega arith in
      rw (given, bytes_number_at 2 bs 25 all l, bytes_number_at 8 bs 17 all (omega arith))
  tail_back (of_more e) = ap (λ (x : List ℕ). 2 ∷ x) (coins_back e)
  tail_back (of_back e) = back_rest (number_at 8 bs 17) (drop 27 bs) ∙ ap (λ (x : List ℕ). 3 ∷ x) (coins_back e)
  tail_back (of_ask e) = ap (λ (x : List ℕ). 4 ∷ x) (sym (drop_all 17 bs (omega arith)))
  tail_back (of_taken e) = ap (λ (x : List ℕ). 5 ∷ x) (sym (drop_all 17 bs (omega arith)))

  -- coins fit eight bytes, and where there is no work the message ends before it
  coins_fit_shape : {k : ℕ} → Shape (number_at 2 bs 25) (length bs) k → body_coins (body_of k (number_at 8 bs 17)) < 2 ^ 64
  coins_fit_shape (of_work e) = number_at_lt 8 bs 17 all
  coins_fit_shape (of_more e) = number_at_lt 8 bs 17 all
  coins_fit_shape (of_back e) = cond_both (eqb (number_at 8 bs 17) 0) NoMore (Back (number_at 8 bs 17)) (λ k. coins_in k < 2 ^ 64) (λ z. omega arith) (λ z. number_at_lt 8 bs 17 all)
  coins_fit_shape (of_ask e) = omega arith
  coins_fit_shape (of_taken e) = omega arith

  bare : {k : ℕ} → Shape (number_at 2 bs 25) (length bs) k → has_work (body_of k (number_at 8 bs 17)) ≡ false → drop 27 bs ≡ []
  bare (of_work e) f = absurd (true≢false f)
  bare (of_more e) f = drop_all 27 bs (omega arith)
  bare (of_back e) f = drop_all 27 bs (omega arith)
  bare (of_ask e) f = drop_all 27 bs (omega arith)
  bare (of_taken e) f = drop_all 27 bs (omega arith)

  module _ (whole : is_whole bs ≡ true) where
    parts : (leb 17 (length bs) ≡ true) × (eqb (length bs) (span bs) ≡ true)
    parts = and_parts (leb 17 (length bs)) (eqb (length bs) (span bs)) whole

    long : 17 ≤ length bs
    long = leb-true 17 (length bs) parts.0

    of_shape : Shape (number_at 2 bs 25) (length bs) (get_or bs 16 0)
    of_shape = shape (get_or bs 16 0) (number_at 2 bs 25) (length bs) long (eqb-true (length bs) (span bs) parts.1)

    -- up to the kind
    head_back : (t : List ℕ) → t ≡ drop 16 bs →
        number_bytes 4 (number_at 4 bs 0) ++ (number_bytes 2 (number_at 2 bs 4) ++ (number_bytes 2 (number_at 2 bs 6) ++ (number_bytes 8 (number_at 8 bs 8) ++ t))) ≡ bs
    head_back t e =
        let l = long in
        let a : 8 + 8 ≤ length bs = omega arith in
        let b : 6 + 2 ≤ length bs = omega arith in
        let c : 4 + 2 ≤ length bs = omega arith in
        let d : 0 + 4 ≤ length bs = omega arith in
        rw (e, bytes_number_at 8 bs 8 all a, bytes_number_at 2 bs 6 all b, bytes_number_at 2 bs 4 all c, bytes_number_at 4 bs 0 all d)

    encode_back : encode (message_at bs) ≡ bs
    unfolding encode
    encode_back = head_back _ (tail_back of_shape ∙ sym (drop_more bs 16 0 long))

    sound_back : is_fine (message_at bs) ≡ true → Sound (message_at bs)
    sound_back f =
        let fine = and_parts (goes (number_at 2 bs 4) (number_at 2 bs 6) (message_at bs).body) (is_paid (message_at bs).body && leb (length (drop 27 bs)) 256) f in
        let rest_fine = and_parts (is_paid (message_at bs).body) (leb (length (drop 27 bs)) 256) fine.1 in
        record { letter_fits = number_at_lt 4 bs 0 all; number_fits = number_at_lt 8 bs 8 all; coins_fit = coins_fit_shape of_shape; goes_so = fine.0; paid = rest_fine.0; short = leb-true (length (drop 27 bs)) 256 rest_fine.1; bytes = All-drop (λ b. b < 256) 27 bs all; bare = bare of_shape }

-- what came through a test
taken : (t : Bool) (x m : Msg) → cond t (Some x) None ≡ Some m → (t ≡ true) × (x ≡ m)
taken true x m e = (refl, cc)
taken false x m e = let z : ◌≡◌ {A = ℕ} 0 1 = cc in absurd (omega arith)

pub read_is_written : ReadIsWritten
unfolding decode
read_is_written bs m all e =
    let got = taken (is_whole bs && is_fine (message_at bs)) (message_at bs) m e in
    let fine = and_parts (is_whole bs) (is_fine (message_at bs)) got.0 in
    (sym (encode_back bs all fine.0) ∙ ap encode got.1, subst (λ (x : Msg). Sound x) got.1 (sound_back bs all fine.0 fine.1))

-- What is written is read, and nothing behind it.
use Rattle.std.proofs.Common.{◌≡◌, ℕ, ◌+◌, ◌^◌, ◌<◌, ◌≤◌, true, false, ◌&&◌, eqb, leb, List, [], ◌∷◌, ◌++◌, length, drop, Some, None, sym, refl, ap, ◌∙◌, arith}
use Rattle.std.proofs.lemmas.List.{append-nil, length-append}
use Rattle.std.proofs.lemmas.Bool.{and_from, and_left, and_right, le-leb, eq-eqb, ne_eqb, ltb-true, cond-true, cond-false}
use Rattle.std.proofs.lemmas.Bool.Decides.{nat_tests}
use Rattle.coins.specs.declared.mail.Kind.TheVariants.{Work, More, Back, NoMore, Ask}
use Rattle.wire.specs.declared.message.Body.{Body}
use Rattle.wire.specs.declared.message.Body.TheVariants.{Numbered, Taken}
use Rattle.wire.specs.Numbers.{number_bytes, number_at}
use Rattle.wire.specs.Messages.{Msg, body_coins}
use Rattle.wire.specs.Rules.{Sound, goes, is_paid, has_work}
use Rattle.wire.specs.Bytes.{encode, span, is_whole, back_of, message_at, is_fine, decode}
use Rattle.wire.specs.Theorems.{WrittenIsRead, NothingBehind}
use Rattle.wire.proofs.Numbers.{number_at_back}
use Rattle.wire.proofs.Lengths.{said, span_encode, encode_long}

-- what goes some way goes between numbers of two bytes
ends_fit : (s r : ℕ) (b : Body) → goes s r b ≡ true → (s < 2 ^ 16) × (r < 2 ^ 16)
ends_fit s r (Numbered (Work c)) h = (grind (arith, nat_tests), grind (arith, nat_tests))
ends_fit s r (Numbered (More c)) h = (grind (arith, nat_tests), grind (arith, nat_tests))
ends_fit s r (Numbered (Back c)) h = (grind (arith, nat_tests), grind (arith, nat_tests))
ends_fit s r (Numbered NoMore) h = (grind (arith, nat_tests), grind (arith, nat_tests))
ends_fit s r (Numbered Ask) h = (grind (arith, nat_tests), grind (arith, nat_tests))
ends_fit s r Taken h = (grind (arith, nat_tests), grind (arith, nat_tests))

body_back : (l s r n : ℕ) (b : Body) (w : List ℕ) → body_coins b < 2 ^ 64 → is_paid b ≡ true → (message_at (encode (said l s r n b w))).body ≡ b
unfolding encode number_bytes number_at
body_back l s r n (Numbered (Work c)) w f p = ap (λ (x : ℕ). Numbered (Work x)) (number_at_back 8 c [] f)
body_back l s r n (Numbered (More c)) w f p = ap (λ (x : ℕ). Numbered (More x)) (number_at_back 8 c [] f)
body_back l s r n (Numbered (Back c)) w f p = ap (λ (x : ℕ). Numbered (back_of x)) (number_at_back 8 c [] f) ∙ ap Numbered (cond-false (eqb c 0) NoMore (Back c) (ne_eqb c 0 (λ z. omega (arith, ltb-true 0 c p))))
body_back l s r n (Numbered NoMore) w f p = refl
body_back l s r n (Numbered Ask) w f p = refl
body_back l s r n Taken w f p = refl

work_back : (l s r n : ℕ) (b : Body) (w : List ℕ) → (has_work b ≡ false → w ≡ []) → drop 27 (encode (said l s r n b w)) ≡ w
unfolding encode number_bytes
work_back l s r n (Numbered (Work c)) w bare = refl
work_back l s r n (Numbered (More c)) w bare = sym (bare refl)
work_back l s r n (Numbered (Back c)) w bare = sym (bare refl)
work_back l s r n (Numbered NoMore) w bare = sym (bare refl)
work_back l s r n (Numbered Ask) w bare = sym (bare refl)
work_back l s r n Taken w bare = sym (bare refl)

message_back : (l s r n : ℕ) (b : Body) (w : List ℕ) → Sound (said l s r n b w) → message_at (encode (said l s r n b w)) ≡ said l s r n b w
unfolding encode number_bytes number_at
message_back l s r n b w o =
    let fit = ends_fit s r b o.goes_so in
    cc (number_at_back 4 l [] o.letter_fits, number_at_back 2 s [] fit.0, number_at_back 2 r [] fit.1, number_at_back 8 n [] o.number_fits, body_back l s r n b w o.coins_fit o.paid, work_back l s r n b w o.bare)

whole_encode : (m : Msg) → length m.work ≤ 256 → is_whole (encode m) ≡ true
whole_encode m h =
    let long : 17 ≤ length (encode m) = encode_long m h in
    let given : span (encode m) ≡ length (encode m) = rw (append-nil (encode m)) at (span_encode m [] h) in
    and_from (leb 17 (length (encode m))) (eqb (length (encode m)) (span (encode m))) (le-leb 17 (length (encode m)) long) (eq-eqb (length (encode m)) (span (encode m)) (sym given))

fine_sound : (m : Msg) → Sound m → is_fine m ≡ true
fine_sound m o = and_from (goes m.sender m.receiver m.body) (is_paid m.body && leb (length m.work) 256) o.goes_so (and_from (is_paid m.body) (leb (length m.work) 256) o.paid (le-leb (length m.work) 256 o.short))

-- bytes that are a whole message which can be are taken
accepted : (bs : List ℕ) (m : Msg) → is_whole bs ≡ true → message_at bs ≡ m → is_fine m ≡ true → decode bs ≡ Some m
unfolding decode
accepted bs m w e f = cond-true (is_whole bs && is_fine (message_at bs)) (Some (message_at bs)) None (and_from (is_whole bs) (is_fine (message_at bs)) w (ap is_fine e ∙ f)) ∙ ap Some e

-- bytes of another length than they give are refused
refused : (bs : List ℕ) → (length bs ≡ span bs → ⊥) → decode bs ≡ None
unfolding decode
refused bs h = cond-false (is_whole bs && is_fine (message_at bs)) (Some (message_at bs)) None (and_left (is_whole bs) (is_fine (message_at bs)) (and_right (leb 17 (length bs)) (eqb (length bs) (span bs)) (ne_eqb (length bs) (span bs) h)))

pub written_is_read : WrittenIsRead
written_is_read m o = accepted (encode m) m (whole_encode m o.short) (message_back m.letter m.sender m.receiver m.number m.body m.work o) (fine_sound m o)

pub nothing_behind : NothingBehind
nothing_behind m x xs o =
    let given : span (encode m ++ (x ∷ xs)) ≡ length (encode m) = span_encode m (x ∷ xs) o.short in
    let longer : length (encode m ++ (x ∷ xs)) ≡ length (encode m) + length (x ∷ xs) = length-append (encode m) (x ∷ xs) in
    refused (encode m ++ (x ∷ xs)) (λ e. omega (arith, sym longer ∙ e ∙ given))

-- What waits can be written.
use Rattle.std.proofs.Common.{◌≡◌, ℕ, zero, suc, ◌<◌, ◌≤◌, length, le-leb, Bool, true, false, ◌&&◌, ltb, List, [], ◌∷◌, ◌++◌, drop, refl, arith}
use Rattle.std.specs.Cmp.Derive.{both_true}
use Rattle.std.proofs.lemmas.Bool.Decides.{nat_tests}
use Rattle.coins.specs.declared.mail.Kind.{Kind}
use Rattle.coins.specs.declared.mail.Kind.TheVariants.{Work as Works, More, Back, NoMore, Ask}
use Rattle.coins.specs.declared.mail.Mail.{Mail}
use Rattle.coins.specs.declared.parcel.Parcel.{Parcel}
use Rattle.coins.specs.Works.{Work}
use Rattle.coins.specs.Parcels.{bytes_for, parcel_of}
use Rattle.coins.specs.Mails.{coins_in}
use Rattle.lines.specs.Fits.{is_bare, fits, all_fit}

-- a test of the first and of the rest
both_more : (a b c : Bool) → (a && b) ≡ true → (b ≡ true → c ≡ true) → (a && c) ≡ true
both_more true b c h f = f h
both_more false b c h f = h

rest_passes : (a b : Bool) → (a && b) ≡ true → b ≡ true
rest_passes true b h = h
rest_passes false b h = absurd (grind arith)

bare_kind : (k : Kind) (w : Work) → is_bare k (bytes_for k w) ≡ true
bare_kind (Works c) w = refl
bare_kind (More c) w = refl
bare_kind (Back c) w = refl
bare_kind NoMore w = refl
bare_kind Ask w = refl

numbers : (a b c d : ℕ) → a < 4294967296 → b < 18446744073709551616 → c < 65536 → d < 65536 → ((ltb a 4294967296 && ltb b 18446744073709551616) && (ltb c 65536 && ltb d 65536)) ≡ true
numbers a b c d e f g h = grind (arith, nat_tests)

-- a message, with the bytes that go with it
pub fit_one : (m : Mail) (w : Work) → length (bytes_for m.kind w) ≤ 256 → m.letter.number < 4294967296 → coins_in m.kind < 18446744073709551616 → m.sender.number < 65536 → m.receiver.number < 65536 → fits (parcel_of m w) ≡ true
fit_one m w l a b c d =
    both_more (ltb m.letter.number 4294967296 && ltb (coins_in m.kind) 18446744073709551616) (ltb m.sender.number 65536 && ltb m.receiver.number 65536) _ (numbers m.letter.number (coins_in m.kind) m.sender.number m.receiver.number a b c d)
    (λ k. both_true k (both_true (bare_kind m.kind w) (le-leb (length (bytes_for m.kind w)) 256 l)))

pub fit_none : (xs : List Parcel) → xs ≡ [] → all_fit xs ≡ true
unfolding all_fit
fit_none xs e = rw e

pub fit_more : (xs : List Parcel) (p : Parcel) → all_fit xs ≡ true → fits p ≡ true → all_fit (xs ++ p ∷ []) ≡ true
unfolding all_fit
fit_more [] p h f = rw f refl
fit_more (x ∷ xs) p h f = both_more (fits x) (all_fit xs) _ h (λ k. fit_more xs p k f)

pub fit_drop : (k : ℕ) (xs : List Parcel) → all_fit xs ≡ true → all_fit (drop k xs) ≡ true
unfolding all_fit
fit_drop zero xs h = h
fit_drop (suc k) [] h = h
fit_drop (suc k) (x ∷ xs) h = fit_drop k xs (rest_passes (fits x) (all_fit xs) h)

-- what is kept can be written
pub ruleset fitting = (fit_none, fit_one, fit_more)

-- Parcels that can be sent.
use Rattle.std.proofs.Common.{◌≡◌, ℕ, ◌^◌, ◌<◌, ◌≤◌, true, false, [], length, refl, arith}
use Rattle.std.proofs.lemmas.Bool.{true≢false}
use Rattle.std.proofs.lemmas.List.Elements.{All-nil}
use Rattle.coins.specs.Mails.{coins_in}
use Rattle.coins.specs.Parcels.{bytes_for, parcel_of}
use Rattle.coins.specs.Works.{Work, bytes_of}
use Rattle.coins.specs.declared.mail.Kind.{Kind}
use Rattle.coins.specs.declared.mail.Kind.TheVariants.{Work as Works, More, Back, NoMore, Ask}
use Rattle.coins.specs.declared.mail.Mail.{Mail}
use Rattle.wire.specs.declared.message.Body.TheVariants.{Numbered}
use Rattle.wire.specs.Messages.{numbered_msg}
use Rattle.wire.specs.Rules.{Sound, AllBytes, goes, is_paid, has_work}

all_for : (k : Kind) (w : Work) → AllBytes (bytes_of w) → AllBytes (bytes_of (bytes_for k w))
all_for (Works c) w h = h
all_for (More c) w h = All-nil (λ b. b < 256)
all_for (Back c) w h = All-nil (λ b. b < 256)
all_for NoMore w h = All-nil (λ b. b < 256)
all_for Ask w h = All-nil (λ b. b < 256)

bare_for : (k : Kind) (w : Work) → has_work (Numbered k) ≡ false → bytes_of (bytes_for k w) ≡ []
bare_for (Works c) w f = absurd (true≢false f)
bare_for (More c) w f = refl
bare_for (Back c) w f = refl
bare_for NoMore w f = refl
bare_for Ask w f = refl

short_for : (k : Kind) (w : Work) → length (bytes_of w) ≤ 256 → length (bytes_of (bytes_for k w)) ≤ 256
short_for (Works c) w h = h
short_for (More c) w h = omega arith
short_for (Back c) w h = omega arith
short_for NoMore w h = omega arith
short_for Ask w h = omega arith

-- a parcel of a message that goes its way, with coins where they belong, can be sent under any number
pub numbered_sound : (m : Mail) (w : Work) (n : ℕ) → m.letter.number < 2 ^ 32 → n < 2 ^ 64 → coins_in m.kind < 2 ^ 64 →
    goes m.sender.number m.receiver.number (Numbered m.kind) ≡ true → is_paid (Numbered m.kind) ≡ true → length (bytes_of w) ≤ 256 → AllBytes (bytes_of w) → Sound (numbered_msg (parcel_of m w) n)
numbered_sound m w n l f c g p s h =
    record { letter_fits = l; number_fits = f; coins_fit = c; goes_so = g; paid = p; short = short_for m.kind w s; bytes = all_for m.kind w h; bare = bare_for m.kind w }

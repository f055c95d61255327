-- The promises over lossy lines, but for the last.
use Rattle.std.proofs.Common.{◌≡◌, ℕ, ◌<◌, length, Contains, ap, ◌∙◌, inl, inr, arith}
use Rattle.std.proofs.lemmas.List.{get_or_default}
use Rattle.std.specs.List.{flat_map}
use Rattle.std.proofs.lemmas.List.Elements.{Contains-get_or}
use Rattle.std.proofs.lemmas.List.Sorted.{Contains-permutation}
use Rattle.coins.specs.declared.mail.Mail.{Mail}
use Rattle.runs.specs.System.{World, mail_at, no_mail, helper_at}
use Rattle.runs.specs.Letter.{view, holding_at, is_work}
use Rattle.runs.proofs.Counts.{clash}
use Rattle.runs.proofs.Theorems.{promised, done_stays, only_work_wakes, quiet_goes_on, quiet_is_said}
use Rattle.lines.specs.Perfect.{Perfect}
use Rattle.lines.specs.Lossy.{view as perfect}
use Rattle.network.specs.Above.{Crew, Item}
use Rattle.network.specs.Network.{Net, NetReach, places, all_mail, seen}
use Rattle.network.specs.Promise.{NetPromise, NetDoneStays, NetOnlyWorkWakes, NetQuietGoesOn, NetQuietIsSaid, Alike, LinesCarry}
use Rattle.network.proofs.Mirrors.{world, mails, named}
use Rattle.network.proofs.Carries.{follows, mirrored, ungave, net_fine, posts, net_mirrors}
use Rattle.network.proofs.Seen.{alike}
use Rattle.network.proofs.Alike.{alike_back, same_messages, alike_none, alike_to_come, alike_quiet, alike_promised}

-- the mirror of a reached network, and that what is seen is alike to it
module _ {w : Net} (R : NetReach w) where
  pub mirror : World
  mirror = world w.above (posts R)

  pub mirror_alike : Alike (world w.above (posts R)) (seen w)
  mirror_alike = alike w (posts R) (net_mirrors R)

pub net_promised : NetPromise
net_promised w R = alike_promised _ (seen w) (mirror_alike R) (promised _ (net_mirrors R).reached)

pub net_named : {w : Net} → NetReach w → (i : ℕ) → i < length w.above.helpers → (helper_at w.above.helpers i).me.number ≡ i
net_named R = named (net_mirrors R).reached

pub net_done_stays : NetDoneStays
net_done_stays w v R r letter pos d =
    let M = mirrored r (net_fine R) (posts R) (net_mirrors R) in
    let D = done_stays _ _ (net_mirrors R).reached M.runs letter pos d in
    (D.0, D.1, alike_quiet _ (seen v) (alike v M.posts M.mirrors) letter D.2)

-- what is seen is what there is of perfect lines
pub seen_same : (w v : Net) → perfect v ≡ perfect w → seen v ≡ seen w
unfolding all_mail
seen_same w v e =
    ap (λ (x : Perfect Crew Item). record { boss = x.above.boss; helpers = x.above.helpers; post = flat_map (λ s. flat_map (λ r. mails (x.queue s r)) (places (length x.above.helpers))) (places (length x.above.helpers)) }) e

pub net_only_work_wakes : NetOnlyWorkWakes
net_only_work_wakes w v R s letter i pos f t =
    elim (follows s (net_fine R) (posts R) (net_mirrors R)) [
      | inl F ↦
          let W = only_work_wakes _ _ (net_mirrors R).reached F.step letter i pos f t in
          let m : Mail = mail_at (posts R) W.0 in
          let H : Contains (seen w).post m = Contains-permutation (posts R) (seen w).post m (same_messages _ (seen w) (mirror_alike R)) (Contains-get_or (posts R) W.0 no_mail W.1) in
          let e : mail_at (seen w).post H.0 ≡ m = get_or_default (seen w).post H.0 no_mail m H.1 ∙ H.2 in
          (H.0, H.1, ap (λ (x : Mail). x.receiver.number) e ∙ W.2, ap (λ (x : Mail). x.letter.number) e ∙ W.3, ap (λ (x : Mail). is_work x.kind) e ∙ W.4)
      | inr e ↦ clash t (ap (λ (u : World). (holding_at (view letter u).holdings i).working) (seen_same w v e.0) ∙ f)
    ]

pub net_quiet_goes_on : NetQuietGoesOn
net_quiet_goes_on w v n letter pos R Q r =
    let U = ungave r (net_fine R) (posts R) (net_mirrors R) in
    let A = mirror_alike R in
    let B = alike v U.posts U.mirrors in
    let G = quiet_goes_on _ _ n letter pos (net_mirrors R).reached (alike_quiet (seen w) _ (alike_back A) letter Q) U.run in
    (alike_quiet _ (seen v) B letter G.0, omega (arith, G.1, alike_to_come _ (seen w) A letter, alike_to_come _ (seen v) B letter))

pub net_quiet_is_said : NetQuietIsSaid
net_quiet_is_said w letter pos R Q none ready =
    let A = alike_back (mirror_alike R) in
    let S = quiet_is_said _ letter pos (net_mirrors R).reached (alike_quiet (seen w) _ A letter.number Q) (alike_none (seen w) _ A letter.number none) ready in
    record { back = S.0; said = S.1 }

pub lines_carry : LinesCarry
lines_carry w v R s =
    elim (follows s (net_fine R) (posts R) (net_mirrors R)) [
      | inl F ↦ inl (record { before = _; after = _; reached = (net_mirrors R).reached; was = mirror_alike R; step = F.step; comes = alike v F.after F.mirrors })
      | inr e ↦ inr (seen_same w v e.0)
    ]

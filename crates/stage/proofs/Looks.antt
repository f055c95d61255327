-- What is read along the messages and the helpers.
use Rattle.std.proofs.Common.{◌≤◌, Some, None, ltb, ltb-true, ltb-false, arith, ◌≡◌, ℕ, ◌+◌, ◌<◌, Bool, true, false, cond, not, List, [], ◌∷◌, ◌++◌, length, get_or, sym, refl, ap, ◌∙◌, add-one}
use Rattle.std.proofs.lemmas.List.{get_or-map, get_or_read, length-map}
use Rattle.std.proofs.lemmas.List.Recursion.{is_position_or_len}
use Rattle.std.specs.List.{position, position_or_len}
use Rattle.coins.proofs.Tests.{by_test}
use Rattle.coins.specs.declared.ids.NodeId.{NodeId}
use Rattle.helper_coins.specs.declared.helper.Helper.{Helper}
use Rattle.helper_coins.specs.Helpers.{new_helper}
use Rattle.runs.specs.System.{crew, no_helper, head, on_line, no_mail, mail_at, helper_at}
use Rattle.coins.specs.declared.parcel.Parcel.{Parcel}
use Rattle.stage.specs.Scenes.{mails}

-- the first message on a line, among messages and among parcels
pub head_mails : (s r : NodeId) (ps : List Parcel) → head (mails ps) s r ≡ position_or_len (λ p. on_line s r p.mail) ps
unfolding mails
head_mails s r ps = is_position_or_len (λ qs. head (mails qs) s r) (λ p. on_line s r p.mail) refl (λ p qs. turned (on_line s r p.mail) _) ps
  where
    turned : (b : Bool) (n : ℕ) → cond (not b) (1 + n) 0 ≡ cond b 0 (1 + n)
    turned true n = refl
    turned false n = refl

-- what is found stands where the search ends, and where nothing is found it ends behind all
pub found_at : {X : Type 0} (p : X → Bool) (xs : List X) (k : ℕ) → position p xs ≡ Some k → (k ≡ position_or_len p xs) × (k < length xs)
found_at p xs k e = by_test (λ o. o ≡ Some k → (k ≡ n) × (k < length xs)) (ltb n (length xs)) (Some n) None (λ t q. let z : k ≡ n = cc in (z, omega (arith, ltb-true _ _ t))) (λ _ q. let z : ◌≡◌ {A = ℕ} 0 1 = cc in absurd (omega arith)) e
  where
    n : ℕ
    n = position_or_len p xs

pub found_none : {X : Type 0} (p : X → Bool) (xs : List X) → position p xs ≡ None → length xs ≤ position_or_len p xs
found_none p xs e = by_test (λ o. o ≡ None → length xs ≤ n) (ltb n (length xs)) (Some n) None (λ _ q. let z : ◌≡◌ {A = ℕ} 0 1 = cc in absurd (omega arith)) (λ f _. ltb-false _ _ f) e
  where
    n : ℕ
    n = position_or_len p xs

pub crew_more : (i : ℕ) → crew (i + 1) ≡ crew i ++ new_helper (record { number = i }) ∷ []
unfolding crew
crew_more i = rw (add-one i)

pub mails_length : (ps : List Parcel) → length (mails ps) ≡ length ps
unfolding mails
mails_length ps = length-map ps (λ (p : Parcel). p.mail)

abbrev pub no_parcel : Parcel
no_parcel = record { mail = no_mail; work = [] }

pub mail_of : (ps : List Parcel) (k : ℕ) → k < length ps → mail_at (mails ps) k ≡ (get_or ps k no_parcel).mail
unfolding mails
mail_of ps k l = get_or-map (λ (q : Parcel). q.mail) ps k no_parcel no_mail l

-- what is read of a parcel, and of a helper
pub mail_read : (ps : List Parcel) (k : ℕ) (p : Parcel) → k < length ps → p ≡ get_or ps k p → mail_at (mails ps) k ≡ p.mail
unfolding mails
mail_read ps k p l e = get_or-map (λ (q : Parcel). q.mail) ps k p no_mail l ∙ ap (λ (q : Parcel). q.mail) (sym e)

pub helper_read : (hs : List Helper) (i : ℕ) (h : Helper) → i < length hs → h ≡ get_or hs i h → helper_at hs i ≡ h
helper_read hs i h l e = sym (get_or_read hs i h l e no_helper)

-- What holds of every world that is reached, by induction over its run.
use Rattle.std.proofs.Common.{◌≡◌, ℕ, zero, suc, ◌<◌, ◌≤◌, Bool, true, false, ◌⊎◌, List, [], ◌∷◌, ◌++◌, length, take, drop, All, sym, refl, ap, ◌∙◌, subst, inl, inr, arith, Ok}
use Rattle.std.proofs.lemmas.List.{length_push, get_or_push, get_or_append_left, get_or_past}
use Rattle.std.proofs.lemmas.List.Elements.{All-nil, All-head, All-tail, All-get_or}
use Rattle.std.proofs.lemmas.Bool.{eq-eqb}
use Rattle.std.proofs.lemmas.Bool.Decides.{eqb_tells, leb_tells}
use Rattle.coins.specs.declared.mail.Mail.{Mail}
use Rattle.helper_coins.specs.declared.helper.Helper.{Helper}
use Rattle.helper_coins.specs.declared.holding.Holding.{Holding}
use Rattle.helper_coins.specs.Holdings.{idle}
use Rattle.helper_coins.specs.Helpers.{new_helper, holding_of, arrive_step}
use Rattle.runs.specs.System.{no_helper, World, crew, start, helper_at, mail_at, no_mail, helper_did, without, Step, gives, says, shares, rests, flushes, comes, returns, Reach, begin, then}
use Rattle.runs.specs.Letter.{View, view, holdings_of, post_of, holding_at, under_way}
use Rattle.runs.specs.Moves.{skips}
use Rattle.runs.specs.Promise.{Untouched, about}
use Rattle.runs.proofs.Counts.{held_none}
use Rattle.runs.proofs.Rules.{Inv, Fine, next}
use Rattle.runs.proofs.Holders.{new_holding}
use Rattle.runs.proofs.Holders as holder
use Rattle.runs.proofs.Books as book
use Rattle.runs.proofs.Views.{held_get, held_length, split_own}
use Rattle.runs.proofs.Turns.{Order, Turn, Passed, Did}
use Rattle.runs.proofs.Calls.{share_did, rest_did, flush_did}
use Rattle.runs.proofs.Comes.{come_did}
use Rattle.runs.proofs.Desk.{give_did, say_did, return_did}

-- the tables are in order, and each letter's rules hold
pub record Whole (w : World) : Type 0 where
  pub order : Order w
  pub inv : (n : ℕ) → 1 ≤ n → Inv (view n w)

all_mid : (P : Mail → Type 0) (a b : List Mail) (m : Mail) → All P (a ++ m ∷ b) → P m
all_mid P [] b m h = All-head P m b h
all_mid P (x ∷ a) b m h = all_mid P a b m (All-tail P x (a ++ m ∷ b) h)

module _ (w : World) (W : Whole w) (k : ℕ) (l : k < length w.post) where
  pub letter_pos : 1 ≤ (mail_at w.post k).letter.number
  letter_pos = All-get_or (λ (m : Mail). 1 ≤ m.letter.number) w.post k no_mail l W.order.numbered

  pub fine_at : Fine (length (holdings_of (mail_at w.post k).letter.number w.helpers)) (mail_at w.post k)
  fine_at =
      let n = (mail_at w.post k).letter.number in
      let P : Mail → Type 0 = Fine (length (holdings_of n w.helpers)) in
      all_mid P (post_of n (take k w.post)) (post_of n (drop (suc k) w.post)) (mail_at w.post k)
      (subst (All P) (split_own n w.post k l (eq-eqb n n refl)) (W.inv n letter_pos).fine)

-- what a step is: a give of the boss's, a message that comes, or neither
abbrev pub give_of : {w v : World} → Step w v → Bool
give_of (gives w letter to room i) = true
give_of (says w letter) = false
give_of (shares w i letter to peer boss l r) = false
give_of (rests w i letter boss l) = false
give_of (flushes w i boss l) = false
give_of (comes w k i boss h p f r l e) = false
give_of (returns w k room b p f r e) = false

abbrev pub come_of : {w v : World} → Step w v → ℕ
come_of (gives w letter to room i) = 0
come_of (says w letter) = 0
come_of (shares w i letter to peer boss l r) = 0
come_of (rests w i letter boss l) = 0
come_of (flushes w i boss l) = 0
come_of (comes w k i boss h p f r l e) = 1
come_of (returns w k room b p f r e) = 1

pub step_did : {w v : World} (s : Step w v) → Whole w → Did (about s) (give_of s) (come_of s) w v
step_did (gives w letter to room i) W = give_did w W.order letter to room i
step_did (says w letter) W = say_did w W.order letter
step_did (shares w i letter to peer boss l r) W = share_did w W.order i l letter to peer boss r
step_did (rests w i letter boss l) W = rest_did w W.order i l letter boss
step_did (flushes w i boss l) W = flush_did w W.order i l boss
step_did (comes w k i boss h p f r l e) W =
    subst (λ (j : ℕ). j < length w.helpers → arrive_step (helper_at w.helpers j) (mail_at w.post k).letter (mail_at w.post k).kind boss ≡ record { helper = h; taking = Ok p } →
    Did (mail_at w.post k).letter.number false 1 w (helper_did (without w k) j h p)) r
    (λ lt q. come_did w W.order k f.inside lt boss h p q) l e
step_did (returns w k room b p f r e) W = return_did w W.order k f.inside r (fine_at w W k f.inside) room b p e

-- what is not touched is the same, or its number was passed over
-- a view is what its parts are
parts : (live live' done done' : Bool) (given given' back back' : ℕ) (hs hs' : List Holding) (ps ps' : List Mail) → live ≡ live' → done ≡ done' → given ≡ given' → back ≡ back' → hs ≡ hs' → ps ≡ ps' →
    ◌≡◌ {A = View} (record { live = live; done = done; given = given; back = back; holdings = hs; post = ps }) (record { live = live'; done = done'; given = given'; back = back'; holdings = hs'; post = ps' })
parts live live' done done' given given' back back' hs hs' ps ps' a b c d e f = cc

pub untouched : (u v : View) → Untouched u v → Passed u v → Turn false 0 u v ⊎ (v ≡ u)
untouched u v U (inl d) = inr (parts v.live u.live v.done u.done v.given u.given v.back u.back v.holdings u.holdings v.post u.post U.live d U.given U.back U.holdings U.post)
untouched u v U (inr d) =
    inl (subst (Turn false 0 u)
    (parts false v.live true v.done u.given v.given u.back v.back u.holdings v.holdings u.post v.post (sym (U.live ∙ d.0)) (sym d.1) (sym U.given) (sym U.back) (sym U.holdings) (sym U.post))
    (record { move = skips u d.0; giving_is = refl; coming_is = refl }))

pub did_inv : (n : ℕ) (g : Bool) (c : ℕ) (w v : World) → Did n g c w v → (m : ℕ) → 1 ≤ m → Inv (view m w) → Inv (view m v)
did_inv n g c w v D m pos I =
    elim (eqb_tells m n) [
      | inl s ↦ elim (D.own (omega (arith, s.1))) [
        | inl t ↦ subst (λ (k : ℕ). Inv (view k v)) (sym s.1) (next t.move (subst (λ (k : ℕ). Inv (view k w)) s.1 I))
        | inr e ↦ subst (λ (k : ℕ). Inv (view k v)) (sym s.1) (subst Inv (sym e.0) (subst (λ (k : ℕ). Inv (view k w)) s.1 I))
      ]
      | inr s ↦ elim (untouched (view m w) (view m v) (D.others m pos s.1).0 (D.others m pos s.1).1) [
        | inl t ↦ next t.move I
        | inr e ↦ subst Inv (sym e) I
      ]
    ]

-- the start
crew_length : (n : ℕ) → length (crew n) ≡ n
unfolding crew
crew_length zero = refl
crew_length (suc n) = length_push (crew n) (new_helper (record { number = n })) ∙ omega (arith, crew_length n)

crew_at : (n i : ℕ) → i < n → helper_at (crew n) i ≡ new_helper (record { number = i })
unfolding crew
crew_at zero i l = absurd (omega arith)
crew_at (suc n) i l =
    elim (eqb_tells i n) [
      | inl s ↦ get_or_push (crew n) (new_helper (record { number = n })) no_helper i (crew_length n ∙ sym s.1) ∙ ap (λ (k : ℕ). new_helper (record { number = k })) (sym s.1)
      | inr s ↦ let ne = s.1 in get_or_append_left (crew n) (new_helper (record { number = n }) ∷ []) no_helper i (omega (arith, crew_length n)) ∙ crew_at n i (omega arith)
    ]

start_order : (n : ℕ) → n ≤ 256 → Order (start n)
start_order n few =
    record {
      few = omega (arith, crew_length n);
      boss = book.tidy_new;
      helpers = λ i l. subst (holder.Tidy i) (sym (crew_at n i (omega (arith, crew_length n)))) (holder.tidy_new i);
      numbered = All-nil (λ (m : Mail). 1 ≤ m.letter.number);
    }

start_idle : (n m i : ℕ) → 1 ≤ m → holding_at (holdings_of m (crew n)) i ≡ idle
start_idle n m i pos =
    elim (leb_tells n i) [
      | inl s ↦ get_or_past (holdings_of m (crew n)) i idle (omega (arith, s.1, held_length m (crew n), crew_length n))
      | inr s ↦ held_get m (crew n) i (omega (arith, s.1, crew_length n)) ∙ ap (λ (h : Helper). holding_of h m) (crew_at n i s.1) ∙ new_holding i m pos
    ]

start_inv : (n m : ℕ) → 1 ≤ m → Inv (view m (start n))
unfolding post_of under_way
start_inv n m pos =
    let e = book.new_live m pos in
    record {
      kept = rw e (omega (arith, held_none (holdings_of m (crew n)) (λ i. ap (λ (h : Holding). h.coins) (start_idle n m i pos))));
      good = λ i b. absurd (let z = ap (λ (h : Holding). h.working) (start_idle n m i pos) in let y : ◌≡◌ {A = ℕ} 0 1 = cc in omega arith);
      fine = All-nil _;
      shut = λ _. (rw e, rw e);
      over = λ _. e;
      few = rw e (omega arith);
    }

pub always : {w : World} → Reach w → Whole w
always (begin n few) = record { order = start_order n few; inv = start_inv n }
always (then {w} {v} r s) =
    let W : Whole w = always r in
    let D = step_did s W in
    record { order = D.order; inv = λ m pos. did_inv (about s) (give_of s) (come_of s) w v D m pos (W.inv m pos) }

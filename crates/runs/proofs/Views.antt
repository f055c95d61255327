-- What one letter sees of a change.
use Rattle.std.proofs.Common.{◌≡◌, ℕ, suc, ◌<◌, true, false, List, [], ◌∷◌, ◌++◌, length, take, drop, set, All, sym, refl, ap, ◌∙◌, add-one}
use Rattle.std.specs.List.{remove}
use Rattle.std.proofs.lemmas.List.{length-map, map-set, get_or-map, set-get_or, take-append-drop, drop_more, append-nil}
use Rattle.std.proofs.lemmas.List.Elements.{filter-append, All-append, All-take, All-drop}
use Rattle.coins.specs.declared.mail.Mail.{Mail}
use Rattle.helper_coins.specs.declared.helper.Helper.{Helper}
use Rattle.helper_coins.specs.declared.holding.Holding.{Holding}
use Rattle.helper_coins.specs.Holdings.{idle}
use Rattle.helper_coins.specs.Helpers.{holding_of}
use Rattle.runs.specs.System.{no_helper, helper_at, mail_at, no_mail}
use Rattle.runs.specs.Letter.{View, is_of, holdings_of, post_of, holding_at}

pub held_length : (n : ℕ) (hs : List Helper) → length (holdings_of n hs) ≡ length hs
unfolding holdings_of
held_length n hs = length-map hs (λ h. holding_of h n)

pub held_set : (n : ℕ) (hs : List Helper) (i : ℕ) (h : Helper) → holdings_of n (set hs i h) ≡ set (holdings_of n hs) i (holding_of h n)
unfolding holdings_of
held_set n hs i h = map-set (λ h. holding_of h n) hs i h

pub held_get : (n : ℕ) (hs : List Helper) (i : ℕ) → i < length hs → holding_at (holdings_of n hs) i ≡ holding_of (helper_at hs i) n
unfolding holdings_of
held_get n hs i l = get_or-map (λ h. holding_of h n) hs i no_helper idle l

pub held_same : (n : ℕ) (hs : List Helper) (i : ℕ) (h : Helper) → i < length hs → holding_of h n ≡ holding_of (helper_at hs i) n → holdings_of n (set hs i h) ≡ holdings_of n hs
held_same n hs i h l e = held_set n hs i h ∙ ap (λ (x : Holding). set (holdings_of n hs) i x) (e ∙ sym (held_get n hs i l)) ∙ set-get_or (holdings_of n hs) i idle

-- a message of the letter, and one of another
pub post_own : (n : ℕ) (a b : List Mail) (m : Mail) → is_of n m ≡ true → post_of n (a ++ m ∷ b) ≡ post_of n a ++ m ∷ post_of n b
unfolding post_of
post_own n a b m e = filter-append (is_of n) a (m ∷ b) ∙ rw e

pub post_other : (n : ℕ) (a b : List Mail) (m : Mail) → is_of n m ≡ false → post_of n (a ++ m ∷ b) ≡ post_of n (a ++ b)
unfolding post_of
post_other n a b m e = filter-append (is_of n) a (m ∷ b) ∙ rw e (sym (filter-append (is_of n) a b))

pub post_both : (n : ℕ) (a b : List Mail) → post_of n (a ++ b) ≡ post_of n a ++ post_of n b
unfolding post_of
post_both n a b = filter-append (is_of n) a b

pub post_none : (n : ℕ) → post_of n [] ≡ []
unfolding post_of
post_none n = refl

pub send_own : (n : ℕ) (a : List Mail) (m : Mail) → is_of n m ≡ true → post_of n (a ++ m ∷ []) ≡ post_of n a ++ m ∷ []
send_own n a m e = post_own n a [] m e ∙ rw (post_none n)

pub send_other : (n : ℕ) (a : List Mail) (m : Mail) → is_of n m ≡ false → post_of n (a ++ m ∷ []) ≡ post_of n a
send_other n a m e = post_other n a [] m e ∙ rw (append-nil a)

-- the k-th message stands between those before and those behind it
pub around : (ms : List Mail) (k : ℕ) → k < length ms → ms ≡ take k ms ++ mail_at ms k ∷ drop (suc k) ms
around ms k l = sym (take-append-drop k ms) ∙ ap (λ (r : List Mail). take k ms ++ r) (drop_more ms k no_mail l ∙ ap (λ (j : ℕ). mail_at ms k ∷ drop j ms) (add-one k))

pub split_own : (n : ℕ) (ms : List Mail) (k : ℕ) → k < length ms → is_of n (mail_at ms k) ≡ true → post_of n ms ≡ post_of n (take k ms) ++ mail_at ms k ∷ post_of n (drop (suc k) ms)
split_own n ms k l e = ap (post_of n) (around ms k l) ∙ post_own n (take k ms) (drop (suc k) ms) (mail_at ms k) e

pub gone_own : (n : ℕ) (ms : List Mail) (k : ℕ) → post_of n (remove ms k) ≡ post_of n (take k ms) ++ post_of n (drop (suc k) ms)
gone_own n ms k = post_both n (take k ms) (drop (suc k) ms)

pub gone_other : (n : ℕ) (ms : List Mail) (k : ℕ) → k < length ms → is_of n (mail_at ms k) ≡ false → post_of n (remove ms k) ≡ post_of n ms
gone_other n ms k l e = sym (post_other n (take k ms) (drop (suc k) ms) (mail_at ms k) e) ∙ sym (ap (post_of n) (around ms k l))

pub all_gone : (P : Mail → Type 0) (ms : List Mail) (k : ℕ) → All P ms → All P (remove ms k)
all_gone P ms k h = All-append P (take k ms) (drop (suc k) ms) (All-take P k ms h) (All-drop P (suc k) ms h)

-- a view whose holdings and messages come to these
pub view_is : (v : View) (hs gs : List Holding) (ps qs : List Mail) → hs ≡ gs → ps ≡ qs →
    ◌≡◌ {A = View} (record { live = v.live; done = v.done; given = v.given; back = v.back; holdings = hs; post = ps }) (record { live = v.live; done = v.done; given = v.given; back = v.back; holdings = gs; post = qs })
view_is v hs gs ps qs e f = cc

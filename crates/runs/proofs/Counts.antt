-- Laws of what is counted over messages and over helpers, and of one helper's change.
use Rattle.std.proofs.Common.{◌≡◌, ℕ, zero, suc, ◌+◌, ◌<◌, ◌≤◌, Bool, true, false, List, [], ◌∷◌, ◌++◌, length, set, All, sum_by, refl, arith}
use Rattle.std.proofs.lemmas.List.Elements.{All-cons, All-head, All-tail, All-push}
use Rattle.std.proofs.lemmas.List.{append-nil}
use Rattle.std.proofs.lemmas.List.Sums.{sum_by-cons, sum_by-set, get_or-le-sum_by}
use Rattle.coins.specs.declared.mail.Kind.{Kind}
use Rattle.coins.specs.declared.mail.Mail.{Mail}
use Rattle.helper_coins.specs.declared.holding.Holding.{Holding}
use Rattle.coins.specs.Mails.{coins_in}
use Rattle.helper_coins.specs.Holdings.{idle}
use Rattle.runs.specs.System.{mail_at}
use Rattle.runs.specs.Letter.{holding_at, held, under_way, weigh, delay, mailed, delayed}

pub clash : {A : Type 0} {b : Bool} → b ≡ true → b ≡ false → A
clash t f = let z : ◌≡◌ {A = ℕ} 0 1 = cc in absurd (omega arith)

pub not_true : (b : Bool) → (b ≡ true → ⊥) → b ≡ false
not_true true f = absurd (f refl)
not_true false f = refl

-- with one element in the midst, and without it
sum_split : {X : Type 0} (f : X → ℕ) (a b : List X) (x : X) → sum_by f (a ++ x ∷ b) ≡ f x + sum_by f (a ++ b)
sum_split f [] b x = sum_by-cons f x b
sum_split f (y ∷ a) b x = omega (arith, sum_by-cons f y (a ++ x ∷ b), sum_by-cons f y (a ++ b), sum_split f a b x)

all_split : {X : Type 0} (P : X → Type 0) (a b : List X) (x : X) → All P (a ++ x ∷ b) → P x × All P (a ++ b)
all_split P [] b x h = (All-head P x b h, All-tail P x b h)
all_split P (y ∷ a) b x h =
    let r = all_split P a b x (All-tail P y (a ++ x ∷ b) h) in (r.0, All-cons P y (a ++ b) (All-head P y (a ++ x ∷ b) h) r.1)

-- Messages, one of them apart: all pass a test P that goes by kinds, and are counted by kinds.
pub record Apart (P : Mail → Kind → Type 0) (f : Kind → ℕ) (count : List Mail → ℕ) (m : Mail) (k : Kind) (rest whole : List Mail) : Type 0 where
  pub one : P m k
  pub others : All (λ x. P x x.kind) rest
  pub all : All (λ x. P x x.kind) whole
  pub sum : count whole ≡ f k + count rest

module _ (P : Mail → Kind → Type 0) (f : Kind → ℕ) (count : List Mail → ℕ)
    (adds : (m : Mail) (a b : List Mail) → count (a ++ m ∷ b) ≡ f m.kind + count (a ++ b)) where
  -- one is taken out
  pub took_out : (m : Mail) (k : Kind) (ms a b : List Mail) → All (λ x. P x x.kind) ms → ms ≡ a ++ m ∷ b → m.kind ≡ k →
      Apart P f count m k (a ++ b) ms
  took_out m k ms a b F e h =
      let r = all_split (λ x. P x x.kind) a b m (rw e at F) in
      record { one = rw (← h) r.0; others = r.1; all = F; sum = rw (e, ← h) (adds m a b) }

  -- one is put behind
  pub put_in : (m : Mail) (k : Kind) (ms : List Mail) → All (λ x. P x x.kind) ms → m.kind ≡ k → P m k →
      Apart P f count m k ms (ms ++ m ∷ [])
  put_in m k ms F h p =
      record {
        one = p;
        others = F;
        all = All-push (λ x. P x x.kind) ms m F (rw (← h) at p);
        sum = rw (← h) (rw (append-nil ms) at (adds m ms []));
      }

pub under_split : (m : Mail) (a b : List Mail) → under_way (a ++ m ∷ b) ≡ coins_in m.kind + under_way (a ++ b)
unfolding under_way
under_split m a b = sum_split (λ x. coins_in x.kind) a b m

pub mailed_split : (m : Mail) (a b : List Mail) → mailed (a ++ m ∷ b) ≡ weigh m.kind + mailed (a ++ b)
unfolding mailed
mailed_split m a b = sum_split (λ x. weigh x.kind) a b m

pub under_member : (ms : List Mail) (k : ℕ) → k < length ms → coins_in (mail_at ms k).kind ≤ under_way ms
unfolding under_way
under_member ms k lt = get_or-le-sum_by (λ m. coins_in m.kind) ms k _ lt

pub held_set : (hs : List Holding) (i : ℕ) (x : Holding) → i < length hs → held (set hs i x) + (holding_at hs i).coins ≡ held hs + x.coins
unfolding held
held_set hs i x lt = sum_by-set (λ h. h.coins) hs i x idle lt

pub delayed_set : (hs : List Holding) (i : ℕ) (x : Holding) → i < length hs → delayed (set hs i x) + delay (holding_at hs i) ≡ delayed hs + delay x
unfolding delayed
delayed_set hs i x lt = sum_by-set delay hs i x idle lt

pub held_member : (hs : List Holding) (i : ℕ) → (holding_at hs i).coins ≤ held hs
unfolding held
held_member [] i = omega arith
held_member (h ∷ hs) zero = omega (arith, sum_by-cons (λ x. x.coins) h hs)
held_member (h ∷ hs) (suc i) = omega (arith, sum_by-cons (λ x. x.coins) h hs, held_member hs i)

pub held_none : (hs : List Holding) → ((i : ℕ) → (holding_at hs i).coins ≡ 0) → held hs ≡ 0
unfolding held
held_none [] none = refl
held_none (h ∷ hs) none = omega (arith, sum_by-cons (λ x. x.coins) h hs, none 0, held_none hs (λ i. none (suc i)))

-- what holds of the new state of helper i and of each old one holds of each after the change
pub set_each : (P : ℕ → Holding → Type 0) (hs : List Holding) (i : ℕ) (x : Holding) → P i x → ((j : ℕ) → P j (holding_at hs j)) →
    (j : ℕ) → P j (holding_at (set hs i x) j)
set_each P [] i x new old j = old j
set_each P (h ∷ hs) zero x new old zero = new
set_each P (h ∷ hs) zero x new old (suc j) = old (suc j)
set_each P (h ∷ hs) (suc i) x new old zero = old 0
set_each P (h ∷ hs) (suc i) x new old (suc j) = set_each (λ k. P (suc k)) hs i x new (λ k. old (suc k)) j

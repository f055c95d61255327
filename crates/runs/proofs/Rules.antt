-- What holds of a letter by its rules, one after another.
use Rattle.std.proofs.Common.{◌≡◌, ℕ, ◌+◌, ◌<◌, ◌≤◌, true, false, List, [], ◌∷◌, ◌++◌, length, set, All, sym, refl, subst, arith, length-set}
use Rattle.std.proofs.lemmas.List.Elements.{All-get_or, All-from_get_or}
use Rattle.std.proofs.lemmas.List.{length-append, get_or_at}
use Rattle.std.proofs.lemmas.Bool.Decides.{nat_tests}
use Rattle.coins.specs.declared.mail.Kind.{Kind}
use Rattle.coins.specs.declared.mail.Kind.TheVariants.{Work, More, Back, NoMore, Ask}
use Rattle.coins.specs.declared.mail.Mail.{Mail}
use Rattle.helper_coins.specs.declared.holding.Holding.{Holding}
use Rattle.coins.specs.Limits.{limit, boss_number}
use Rattle.coins.specs.Mails.{coins_in}
use Rattle.runs.specs.System.{mail_at, no_mail}
use Rattle.runs.specs.Letter.{View, holding_at, is_work, Quiet, held, under_way}
use Rattle.runs.specs.Moves.{Move, now_has, now_counts, gives, takes, shares, asks, rests, flushes, keeps, declines, hears, grants, denies, returns, says, skips}
use Rattle.runs.specs.Promise.{Sound}
use Rattle.runs.proofs.Counts.{clash, not_true, Apart, took_out, put_in, under_split, held_set, held_member, under_member, set_each}

-- of n helpers: a message is for one of them or for the boss, as its kind is, and has coins where they belong
abbrev pub FineKind : ℕ → Mail → Kind → Type 0
FineKind n m (Work c) = (m.receiver.number < n) × (1 ≤ c)
FineKind n m (More c) = (m.receiver.number < n) × (1 ≤ c)
FineKind n m (Back c) = (m.receiver.number ≡ boss_number) × (1 ≤ c)
FineKind n m NoMore = m.receiver.number < n
FineKind n m Ask = (m.receiver.number ≡ boss_number) × (m.sender.number < n)

abbrev pub Fine : ℕ → Mail → Type 0
Fine n m = FineKind n m m.kind

abbrev pub AllFine : View → List Mail → Type 0
AllFine v ms = All (Fine (length v.holdings)) ms

pub record Inv (v : View) : Type 0 where
  pub kept : v.given ≡ v.back + (held v.holdings + under_way v.post)
  pub good : (i : ℕ) → (holding_at v.holdings i).working ≡ true → 1 ≤ (holding_at v.holdings i).coins
  pub fine : AllFine v v.post
  pub shut : v.live ≡ false → (v.given ≡ 0) × (v.back ≡ 0)
  pub over : v.done ≡ true → v.live ≡ false
  pub few : v.given < limit

-- a message apart from the others, of those that a post may have
abbrev Part : View → Mail → Kind → List Mail → List Mail → Type 0
Part v m k rest whole = Apart (FineKind (length v.holdings)) coins_in under_way m k rest whole

came : {v : View} (m : Mail) {k : Kind} (a b : List Mail) → Inv v → v.post ≡ a ++ m ∷ b → m.kind ≡ k → Part v m k (a ++ b) v.post
came {v} m {k} a b I e f = took_out (FineKind (length v.holdings)) coins_in under_way under_split m k v.post a b I.fine e f

sent : (v : View) (m : Mail) {k : Kind} (ms : List Mail) → AllFine v ms → m.kind ≡ k → FineKind (length v.holdings) m k →
    Part v m k ms (ms ++ m ∷ [])
sent v m {k} ms F e f = put_in (FineKind (length v.holdings)) coins_in under_way under_split m k ms F e f

-- a helper's coins and those under way change for each other
has : {v : View} (i : ℕ) (x : Holding) (ms : List Mail) → Inv v → i < length v.holdings → AllFine v ms →
    x.coins + under_way ms ≡ (holding_at v.holdings i).coins + under_way v.post →
    (x.working ≡ true → 1 ≤ x.coins) → Inv (now_has v i x ms)
has {v} i x ms I lt F same paid =
    record {
      kept = omega (arith, I.kept, held_set v.holdings i x lt);
      good = set_each (λ j h. h.working ≡ true → 1 ≤ h.coins) v.holdings i x paid I.good;
      fine = subst (λ n. All (Fine n) ms) (sym (length-set v.holdings i x)) F;
      shut = I.shut;
      over = I.over;
      few = I.few;
    }

-- the boss's counts change with the coins under way
counts : {v : View} (given back : ℕ) (ms : List Mail) → Inv v → AllFine v ms →
    given + (v.back + under_way v.post) ≡ v.given + (back + under_way ms) →
    (v.live ≡ false → (given ≡ 0) × (back ≡ 0)) → given < limit → Inv (now_counts v given back ms)
counts given back ms I F same shut few =
    record { kept = omega (arith, I.kept); good = I.good; fine = F; shut = shut; over = I.over; few = few }

-- each rule keeps it
pub next : {w v : View} → Move w v → Inv w → Inv v
next (gives v m nd lt h) I =
    let s = sent v m v.post I.fine h.1 (h.0, omega arith) in
    record {
      kept = omega (arith, I.kept, s.sum);
      good = I.good;
      fine = s.all;
      shut = λ e. clash refl e;
      over = λ e. clash e refl;
      few = lt;
    }
next (takes v m c a b e h) I =
    let r = came m a b I e h.1 in
    has _ _ (a ++ b) I h.0 r.others (omega arith) (λ _. omega arith)
next (shares v m i lt w le h) I =
    let s = sent v m v.post I.fine h.1 (h.0, omega arith) in
    has i _ _ I lt s.all (omega arith) (λ _. omega arith)
next (asks v m i w h) I =
    let s = sent v m v.post I.fine h.3 (h.2, omega arith) in
    has i _ _ I h.0 s.all (omega arith) (I.good i)
next (rests v m i w h) I =
    let s = sent v m v.post I.fine h.3 (h.2, I.good i w) in
    has i _ _ I h.0 s.all (omega arith) (λ e. clash e refl)
next (flushes v m i w h) I =
    let s = sent v m v.post I.fine h.3 (h.2, grind (arith, nat_tests)) in
    has i _ _ I h.0 s.all (omega arith) (λ e. clash e refl)
next (keeps v m c a b e h) I =
    let r = came m a b I e h.1 in
    has _ _ (a ++ b) I h.0 r.others (omega arith) (λ _. omega arith)
next (declines v m n c a b e h w g) I =
    let r = came m a b I e h.1 in
    let s = sent v n (a ++ b) r.others g.3 (g.2, omega arith) in
    has _ _ _ I h.0 s.all (omega arith) (λ e. clash e refl)
next (hears v m a b e h) I =
    let r = came m a b I e h.1 in
    has _ _ (a ++ b) I h.0 r.others (omega arith) (λ w. omega (arith, I.good _ w))
next (grants v m n a b e h l lt to k) I =
    let r = came m a b I e h.3 in
    let s = sent v n (a ++ b) r.others k (omega arith, omega arith) in
    counts _ _ _ I s.all (omega arith) (λ f. clash l f) lt
next (denies v m n a b e h to k) I =
    let r = came m a b I e h.3 in
    let s = sent v n (a ++ b) r.others k (omega arith) in
    counts _ _ _ I s.all (omega arith) I.shut I.few
next (returns v m c a b e to k) I =
    let r = came m a b I e k in
    counts _ _ _ I r.others (omega arith) (λ f. let z = I.shut f in omega (arith, I.kept)) I.few
next (says v l e) I =
    record {
      kept = omega (arith, I.kept);
      good = I.good;
      fine = I.fine;
      shut = λ _. (refl, refl);
      over = λ _. refl;
      few = omega arith;
    }
next (skips v l) I =
    record { kept = I.kept; good = I.good; fine = I.fine; shut = λ _. I.shut l; over = λ _. refl; few = I.few }

-- what the boss has said stays said
pub stays : {w v : View} → Move w v → w.done ≡ true → v.done ≡ true
stays (gives v m nd lt h) d = clash d nd
stays (takes v m c a b e h) d = d
stays (shares v m i lt w le h) d = d
stays (asks v m i w h) d = d
stays (rests v m i w h) d = d
stays (flushes v m i w h) d = d
stays (keeps v m c a b e h) d = d
stays (declines v m n c a b e h w g) d = d
stays (hears v m a b e h) d = d
stays (grants v m n a b e h l lt to k) d = d
stays (denies v m n a b e h to k) d = d
stays (returns v m c a b e to k) d = d
stays (says v l e) d = refl
stays (skips v l) d = refl

-- no helper comes or goes
pub as_many : {w v : View} → Move w v → length v.holdings ≡ length w.holdings
as_many (gives v m nd lt h) = refl
as_many (takes v m c a b e h) = simp length-set
as_many (shares v m i lt w le h) = simp length-set
as_many (asks v m i w h) = simp length-set
as_many (rests v m i w h) = simp length-set
as_many (flushes v m i w h) = simp length-set
as_many (keeps v m c a b e h) = simp length-set
as_many (declines v m n c a b e h w g) = simp length-set
as_many (hears v m a b e h) = simp length-set
as_many (grants v m n a b e h l lt to k) = refl
as_many (denies v m n a b e h to k) = refl
as_many (returns v m c a b e to k) = refl
as_many (says v l e) = refl
as_many (skips v l) = refl

-- nobody has more coins than were given
pub coins_at : (v : View) (i : ℕ) → Inv v → (holding_at v.holdings i).coins ≤ v.given
coins_at v i I = omega (arith, I.kept, held_member v.holdings i)

-- a helper's coins, those of a message and those that are back are different ones
pub under_at : (v : View) → Inv v → (k : ℕ) → k < length v.post → (i : ℕ) →
    (holding_at v.holdings i).coins + coins_in (mail_at v.post k).kind + v.back ≤ v.given
under_at v I k lt i = omega (arith, I.kept, held_member v.holdings i, under_member v.post k lt)

-- work has a coin
no_work_without_coins : (n : ℕ) (m : Mail) (k : Kind) → FineKind n m k → coins_in k ≡ 0 → is_work k ≡ false
no_work_without_coins n m (Work c) f e = absurd (omega arith)
no_work_without_coins n m (More c) f e = refl
no_work_without_coins n m (Back c) f e = refl
no_work_without_coins n m NoMore f e = refl
no_work_without_coins n m Ask f e = refl

-- when the boss has said done there are no coins, and who were at work would have one, and so would work under way
pub sound : (v : View) → Inv v → Sound v
sound v I = record { quiet = quiet; kept = I.kept; paid = I.good }
  where
    idle : (k : ℕ) → k < length v.post → coins_in (mail_at v.post k).kind ≡ 0 → is_work (mail_at v.post k).kind ≡ false
    idle k lt e =
        let n = length v.holdings in
        no_work_without_coins n (mail_at v.post k) _ (All-get_or (Fine n) v.post k no_mail lt I.fine) e

    quiet : v.done ≡ true → Quiet v
    quiet d =
        let z = I.shut (I.over d) in
        record {
          nobody = λ i. not_true _ (λ w. omega (arith, I.good i w, coins_at v i I));
          nothing = All-from_get_or (λ m. is_work m.kind ≡ false) v.post no_mail (λ k lt. idle k lt (omega (arith, under_at v I k lt 0)));
        }

-- who comes to be at work by a change of helper i is i, by a state that is at work
woken : (hs : List Holding) (i j : ℕ) (x : Holding) → (holding_at hs j).working ≡ false → (holding_at (set hs i x) j).working ≡ true →
    (i ≡ j) × (x.working ≡ true)
woken hs i j x =
    set_each (λ k h. (holding_at hs k).working ≡ false → h.working ≡ true → (i ≡ k) × (x.working ≡ true)) hs i x
    (λ _ w. (refl, w)) (λ k f w. clash w f) j

-- so a change that puts nobody to work wakes nobody
asleep : {A : Type 0} (hs : List Holding) (i j : ℕ) (x : Holding) → (x.working ≡ true → (holding_at hs i).working ≡ true) →
    (holding_at hs j).working ≡ false → (holding_at (set hs i x) j).working ≡ true → A
asleep hs i j x same f w =
    let r = woken hs i j x f w in
    clash (same r.1) (rw r.0 f)

-- only work that was under way puts somebody to work
pub wakes : {w v : View} → Move w v → (i : ℕ) → (holding_at w.holdings i).working ≡ false →
    (holding_at v.holdings i).working ≡ true →
    (k : ℕ) × (k < length w.post) × ((mail_at w.post k).receiver.number ≡ i) × (is_work (mail_at w.post k).kind ≡ true)
wakes (gives v m nd lt h) j f t = clash t f
wakes (takes v m c a b e h) j f t =
    let here : mail_at v.post (length a) ≡ m = rw e (get_or_at a m b no_mail (length a) refl) in
    (length a, rw (e, length-append) (omega arith), rw here (woken v.holdings _ j _ f t).0, rw (here, h.1))
wakes (shares v m i lt w le h) j f t = asleep v.holdings i j _ (λ x. x) f t
wakes (asks v m i w h) j f t = asleep v.holdings i j _ (λ x. x) f t
wakes (rests v m i w h) j f t = asleep v.holdings i j _ (λ _. w) f t
wakes (flushes v m i w h) j f t = asleep v.holdings i j _ (λ x. clash x refl) f t
wakes (keeps v m c a b e h) j f t = asleep v.holdings _ j _ (λ x. x) f t
wakes (declines v m n c a b e h w g) j f t = asleep v.holdings _ j _ (λ x. clash x refl) f t
wakes (hears v m a b e h) j f t = asleep v.holdings _ j _ (λ x. x) f t
wakes (grants v m n a b e h l lt to k) j f t = clash t f
wakes (denies v m n a b e h to k) j f t = clash t f
wakes (returns v m c a b e to k) j f t = clash t f
wakes (says v l e) j f t = clash t f
wakes (skips v l) j f t = clash t f

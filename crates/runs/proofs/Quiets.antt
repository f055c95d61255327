-- A letter on which nobody is at work: it stays so, little comes, and all coins are back at last.
use Rattle.std.proofs.Common.{get_or, ◌≡◌, ℕ, ◌+◌, ◌<◌, ◌≤◌, false, List, [], ◌∷◌, ◌++◌, length, All, refl, ap, arith}
use Rattle.std.proofs.lemmas.List.Elements.{All-from_get_or}
use Rattle.std.proofs.lemmas.List.Sums.{sum_by-le}
use Rattle.std.proofs.lemmas.Bool.Decides.{nat_tests}
use Rattle.coins.specs.declared.mail.Kind.{Kind}
use Rattle.coins.specs.declared.mail.Kind.TheVariants.{Work, More, Back, NoMore, Ask}
use Rattle.coins.specs.declared.mail.Mail.{Mail}
use Rattle.helper_coins.specs.declared.holding.Holding.{Holding}
use Rattle.helper_coins.specs.Holdings.{idle, waits, answered}
use Rattle.runs.specs.System.{no_mail}
use Rattle.runs.specs.Letter.{View, holding_at, is_work, Quiet, under_way, weigh, delay, mailed, delayed, to_come}
use Rattle.runs.specs.Moves.{Move, now_has, gives, takes, shares, asks, rests, flushes, keeps, declines, hears, grants, denies, returns, says, skips, is_giving, coming}
use Rattle.runs.specs.Promise.{QuietIsShort}
use Rattle.runs.proofs.Counts.{clash, Apart, took_out, put_in, mailed_split, delayed_set, held_none, set_each}
use Rattle.runs.proofs.Rules.{Inv}

abbrev NoWork : List Mail → Type 0
NoWork ms = All (λ m. is_work m.kind ≡ false) ms

-- a message apart from the others, none of them work
abbrev Part : Mail → Kind → List Mail → List Mail → Type 0
Part m k rest whole = Apart (λ _ k. is_work k ≡ false) weigh mailed m k rest whole

came : {v : View} (m : Mail) {k : Kind} (a b : List Mail) → Quiet v → v.post ≡ a ++ m ∷ b → m.kind ≡ k → Part m k (a ++ b) v.post
came {v} m {k} a b q e f = took_out (λ _ k. is_work k ≡ false) weigh mailed mailed_split m k v.post a b q.nothing e f

sent : (m : Mail) {k : Kind} (ms : List Mail) → NoWork ms → m.kind ≡ k → is_work k ≡ false → Part m k ms (ms ++ m ∷ [])
sent m {k} ms q e f = put_in (λ _ k. is_work k ≡ false) weigh mailed mailed_split m k ms q e f

-- a helper comes to a state that is not at work, and n is taken from what is to come
has : {v : View} (i : ℕ) (x : Holding) (ms : List Mail) (n : ℕ) → Quiet v → i < length v.holdings →
    x.working ≡ false → NoWork ms →
    delay x + mailed ms + n ≤ delay (holding_at v.holdings i) + mailed v.post →
    Quiet (now_has v i x ms) × (to_come (now_has v i x ms) + n ≤ to_come v)
has {v} i x ms n q lt f none le = (
  record { nobody = set_each (λ j h. h.working ≡ false) v.holdings i x f q.nobody; nothing = none },
  omega (arith, delayed_set v.holdings i x lt),
)

delay_le : (h : Holding) → delay h ≤ 2
delay_le h = grind (arith, nat_tests)

-- without a give it stays quiet, and each message that comes lowers what is to come
pub quiet_on : {w v : View} (s : Move w v) → is_giving s ≡ false → Quiet w → Quiet v × (to_come v + coming s ≤ to_come w)
quiet_on (gives v m nd lt h) g q = clash refl g
quiet_on (takes v m c a b e h) g q = let r = came m a b q e h.1 in clash refl r.one
quiet_on (shares v m i lt w le h) g q = clash w (q.nobody i)
quiet_on (asks v m i w h) g q = clash w (q.nobody i)
quiet_on (rests v m i w h) g q = clash w (q.nobody i)
quiet_on (flushes v m i w h) g q =
    let s = sent m v.post q.nothing h.3 refl in
    has i _ _ 0 q h.0 refl s.all (grind (arith, nat_tests))
quiet_on (keeps v m c a b e h) g q =
    let r = came m a b q e h.1 in
    has _ _ _ 1 q h.0 (q.nobody _) r.others (omega (arith, delay_le (answered (holding_at v.holdings m.receiver.number) c)))
quiet_on (declines v m n c a b e h w k) g q =
    let r = came m a b q e h.1 in
    let s = sent n (a ++ b) r.others k.3 refl in
    has _ _ _ 1 q h.0 refl s.all (omega arith)
quiet_on (hears v m a b e h) g q =
    let r = came m a b q e h.1 in
    has _ _ _ 1 q h.0 (q.nobody _) r.others (grind (arith, nat_tests))
quiet_on (grants v m n a b e h l lt to k) g q =
    let r = came m a b q e h.3 in
    let s = sent n (a ++ b) r.others k refl in
    (record { nobody = q.nobody; nothing = s.all }, omega arith)
quiet_on (denies v m n a b e h to k) g q =
    let r = came m a b q e h.3 in
    let s = sent n (a ++ b) r.others k refl in
    (record { nobody = q.nobody; nothing = s.all }, omega arith)
quiet_on (returns v m c a b e to k) g q =
    let r = came m a b q e k in
    (record { nobody = q.nobody; nothing = r.others }, omega arith)
quiet_on (says v l e) g q = (record { nobody = q.nobody; nothing = q.nothing }, omega arith)
quiet_on (skips v l) g q = (record { nobody = q.nobody; nothing = q.nothing }, omega arith)

-- when no message is left and no coins wait, all are back
pub quiet_back : (v : View) → Inv v → Quiet v → v.post ≡ [] →
    ((i : ℕ) → waits (holding_at v.holdings i) ≡ false) → v.given ≡ v.back
unfolding under_way
quiet_back v I q e none =
    omega (arith, I.kept, ap under_way e, held_none v.holdings (λ i. let f = q.nobody i in let n = none i in grind (arith, nat_tests)))

weigh_le : (k : Kind) → weigh k ≤ 4
weigh_le (Work c) = omega arith
weigh_le (More c) = omega arith
weigh_le (Back c) = omega arith
weigh_le NoMore = omega arith
weigh_le Ask = omega arith

pub short : QuietIsShort
unfolding mailed delayed
short v =
    omega (
      arith,
      sum_by-le (λ m. weigh m.kind) 4 v.post (All-from_get_or (λ m. weigh m.kind ≤ 4) v.post no_mail (λ i _. weigh_le (get_or v.post i no_mail).kind)),
      sum_by-le delay 2 v.holdings (All-from_get_or (λ h. delay h ≤ 2) v.holdings idle (λ i _. delay_le (holding_at v.holdings i))),
    )

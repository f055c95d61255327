-- Each message that comes, and each flush, leaves less to come.
use Rattle.std.proofs.Common.{◌≡◌, ℕ, suc, ◌+◌, ◌<◌, ◌≤◌, true, cond, not, ◌&&◌, ◌||◌, eqb, ltb, leb, List, [], length, get_or, take, drop, set, None, refl, ap, arith, ltb-true, Ok, Option, Err, Some}
use Rattle.std.specs.List.{remove}
use Rattle.std.proofs.lemmas.List.{append-nil}
use Rattle.std.proofs.lemmas.Bool.{eqb-true}
use Rattle.std.proofs.lemmas.Bool.Decides.{nat_tests}
use Rattle.coins.specs.declared.ids.LetterId.{LetterId}
use Rattle.coins.specs.declared.ids.NodeId.{NodeId}
use Rattle.coins.specs.declared.mail.Kind.{Kind}
use Rattle.coins.specs.declared.mail.Kind.TheVariants.{Work as Works, More, Back, NoMore, Ask}
use Rattle.coins.specs.declared.mail.Mail.{Mail}
use Rattle.coins.specs.Mails.{Taking}
use Rattle.coins.specs.declared.mail.Untaken.TheVariants.{Later, Refused as Turned}
use Rattle.helper_coins.specs.declared.helper.Helper.{Helper}
use Rattle.helper_coins.specs.declared.holding.Holding.{Holding}
use Rattle.boss_coins.specs.declared.boss.Boss.{Boss}
use Rattle.coins.specs.Limits.{grant, limit}
use Rattle.coins.specs.Letters.{place}
use Rattle.helper_coins.specs.Holdings.{idle, took, answered, waits}
use Rattle.helper_coins.specs.Helpers.{at, holding_of, slot_for, clear, counts, seek_waiting, flush_step, work_step, more_step, no_more_at, arrive_step}
use Rattle.helper_coins.specs.Helpers.{TookIn as HelperTook, Flushed}
use Rattle.boss_coins.specs.Bosses.{receive_step}
use Rattle.boss_coins.specs.Bosses.{TookIn as BossTook}
use Rattle.runs.specs.System.{World, helper_at, no_helper, mail_at, sent}
use Rattle.runs.specs.Letter.{weigh, delay, mailed, delayed}
use Rattle.runs.proofs.Tables.{by_test}
use Rattle.runs.proofs.Counts.{mailed_split, delayed_set}
use Rattle.runs.proofs.Holders.{Tidy}
use Rattle.runs.proofs.Views.{around}
use Rattle.std.proofs.lemmas.List.Sums.{sum_by-set, passes_at_first}
use Rattle.stage.specs.Scenes.{load}

-- what a step sends weighs so much
abbrev pub weighs : Option Mail → ℕ
weighs None = 0
weighs (Some m) = weigh m.kind

pub mailed_sent : (p : Option Mail) (ms : List Mail) → mailed (sent p ms) ≡ mailed ms + weighs p
mailed_sent None ms = omega arith
mailed_sent (Some m) ms = omega (arith, mailed_split m ms [], ap mailed (append-nil ms))

pub mailed_removed : (ms : List Mail) (k : ℕ) → k < length ms → mailed (remove ms k) + weigh (mail_at ms k).kind ≡ mailed ms
mailed_removed ms k l = omega (arith, ap mailed (around ms k l), mailed_split (mail_at ms k) (take k ms) (drop (suc k) ms))

delay_le : (x : Holding) → delay x ≤ 2
delay_le x = by_test (λ (k : ℕ). k ≤ 2) (waits x) 2 0 (λ _. omega arith) (λ _. omega arith)

-- a message of this weight that a helper takes leaves less
abbrev pub Lighter : Helper → ℕ → Helper → Taking → Type 0
Lighter h was g (Ok p) = delayed g.holdings + weighs p + 1 ≤ delayed h.holdings + was
Lighter h was g (Err Later) = Unit {0}
Lighter h was g (Err (Turned why)) = Unit {0}

module _ (i : ℕ) (h : Helper) (T : Tidy i h) where
  inside : (k : ℕ) → k < 64 → k < length h.holdings
  inside k l = omega (arith, T.holdings)

  abbrev Lightens : ℕ → HelperTook → Type 0
  Lightens was d = Lighter h was d.helper d.taking

  work_lighter : (letter : LetterId) (c : ℕ) → Lightens 1 (work_step h letter c)
  work_lighter letter c =
      by_test (Lightens 1) (counts (holding_of h n) c) _ _
      (λ _. by_test (Lightens 1) (eqb n 0) _ _ (λ _. tt)
      (λ _. by_test (Lightens 1) (ltb (slot_for h n) 64) _ _
      (λ t. omega (arith, delayed_set h.holdings (slot_for h n) (took (holding_of h n) c) (inside (slot_for h n) (ltb-true _ _ t)))) (λ _. tt)))
      (λ _. tt)
    where
      n : ℕ
      n = letter.number

  clear_le : (k : ℕ) → delayed (clear h k).holdings ≤ delayed h.holdings
  clear_le k =
      by_test (λ (g : Helper). delayed g.holdings ≤ delayed h.holdings) (ltb k 64) _ _
      (λ t. omega (arith, delayed_set h.holdings k idle (inside k (ltb-true _ _ t)))) (λ _. omega arith)

  more_lighter : (letter : LetterId) (c boss : ℕ) → Lightens 3 (more_step h letter c boss)
  more_lighter letter c boss =
      by_test (Lightens 3) (counts (holding_of h n) c) _ _
      (λ _. by_test (Lightens 3) (eqb n 0) _ _ (λ _. tt)
      (λ _. by_test (Lightens 3) (not (holding_of h n).working && ltb 0 boss) _ _
      (λ _. omega (arith, clear_le (place h.letters n)))
      (λ _. by_test (Lightens 3) (ltb (slot_for h n) 64) _ _
      (λ t. omega (arith, delayed_set h.holdings (slot_for h n) (answered (holding_of h n) c) (inside (slot_for h n) (ltb-true _ _ t)), delay_le (answered (holding_of h n) c))) (λ _. tt))))
      (λ _. tt)
    where
      n : ℕ
      n = letter.number

  heard_same : (x : Holding) → delay (answered x 0) ≡ delay x
  heard_same x = let e : x.coins + 0 ≡ x.coins = omega arith in ap (λ (c : ℕ). cond (not x.working && ltb 0 c) 2 0) e

  no_more_lighter : (k : ℕ) → delayed (no_more_at h k).holdings ≤ delayed h.holdings
  no_more_lighter k =
      by_test (λ (g : Helper). delayed g.holdings ≤ delayed h.holdings) (ltb k 64) _ _
      (λ t. omega (arith, delayed_set h.holdings k (answered (at h.holdings k) 0) (inside k (ltb-true _ _ t)), heard_same (at h.holdings k))) (λ _. omega arith)

  pub arrive_lighter : (letter : LetterId) (kind : Kind) (boss : ℕ) → Lighter h (weigh kind) (arrive_step h letter kind boss).helper (arrive_step h letter kind boss).taking
  arrive_lighter letter (Works c) boss = work_lighter letter c
  arrive_lighter letter (More c) boss = more_lighter letter c boss
  arrive_lighter letter NoMore boss = omega (arith, no_more_lighter (place h.letters letter.number))
  arrive_lighter letter (Back c) boss = tt
  arrive_lighter letter Ask boss = tt

  -- coins that go back leave less to come
  pub flush_lighter : (boss : ℕ) → 1 ≤ boss → seek_waiting h.holdings < 64 → delayed (flush_step h boss).helper.holdings + weighs (flush_step h boss).post + 1 ≤ delayed h.holdings
  flush_lighter boss some l =
      by_test (λ (d : Flushed). delayed d.helper.holdings + weighs d.post + 1 ≤ delayed h.holdings) (ltb k 64 && not (eqb boss 0)) _ _
      (λ _. omega (arith, delayed_set h.holdings k idle (inside k l), waits_two (at h.holdings k) (passes_at_first waits h.holdings idle (inside k l))))
      (λ f. absurd (let z : (ltb k 64 && not (eqb boss 0)) ≡ true = free k boss l some in let y : ◌≡◌ {A = ℕ} 0 1 = cc in omega arith))
    where
      k : ℕ
      k = seek_waiting h.holdings

      waits_two : (x : Holding) → waits x ≡ true → delay x ≡ 2
      waits_two x e = rw e

      free : (a b : ℕ) → a < 64 → 1 ≤ b → (ltb a 64 && not (eqb b 0)) ≡ true
      free a b la lb = grind (arith, nat_tests)

-- a message that the boss takes leaves less
abbrev pub Drops : ℕ → Taking → Type 0
Drops was (Ok p) = weighs p + 1 ≤ was
Drops was (Err Later) = ⊥
Drops was (Err (Turned why)) = Unit {0}

pub receive_lighter : (b : Boss) (sender : NodeId) (letter : LetterId) (kind : Kind) (places : ℕ) → (kind ≡ Ask → 1 ≤ places) → Drops (weigh kind) (receive_step b sender letter kind places).taking
receive_lighter b sender letter (Works c) places f = tt
receive_lighter b sender letter (More c) places f = tt
receive_lighter b sender letter NoMore places f = tt
receive_lighter b sender letter (Back c) places f =
    by_test P (eqb c 0 || leb 64 (place b.letters letter.number)) _ _ (λ _. tt)
    (λ _. by_test P (leb (get_or b.back (place b.letters letter.number) 0 + c) (get_or b.given (place b.letters letter.number) 0)) _ _ (λ _. omega arith) (λ _. tt))
  where
    P : BossTook → Type 0
    P d = Drops 1 d.taking
receive_lighter b sender letter Ask places f =
    by_test P (eqb places 0) _ _ (λ z. omega (arith, eqb-true places 0 z, f refl))
    (λ _. by_test P (ltb (place b.letters letter.number) 64) _ _
    (λ _. by_test P (ltb (get_or b.given (place b.letters letter.number) 0 + grant) limit) _ _ (λ _. omega arith) (λ _. omega arith)) (λ _. omega arith))
  where
    P : BossTook → Type 0
    P d = Drops 4 d.taking

-- the load of a world after a helper came to g, and the messages to ms
pub load_helper : (w : World) (i : ℕ) (g : Helper) (ms : List Mail) → i < length w.helpers →
    load (record { boss = w.boss; helpers = set w.helpers i g; post = ms }) + (delayed (helper_at w.helpers i).holdings + mailed w.post) ≡ load w + (delayed g.holdings + mailed ms)
unfolding load
load_helper w i g ms l = omega (arith, sum_by-set (λ (h : Helper). delayed h.holdings) w.helpers i g no_helper l)

pub load_boss : (w : World) (b : Boss) (ms : List Mail) → load (record { boss = b; helpers = w.helpers; post = ms }) + mailed w.post ≡ load w + mailed ms
unfolding load
load_boss w b ms = omega arith

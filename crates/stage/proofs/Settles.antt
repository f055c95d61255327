-- Letting messages come ends, and leaves nothing under way; what was quiet stays quiet, and all its coins are back.
use Rattle.std.proofs.Common.{◌≡◌, ℕ, suc, ◌+◌, ◌<◌, ◌≤◌, Bool, true, false, cond, ◌&&◌, eqb, ltb, ◌⊎◌, List, [], ◌∷◌, length, set, Some, None, count_by, Option, sym, refl, ap, ◌∙◌, subst, inl, inr, ⊎_elim, arith, ltb-false, ltb-true, Ok, Err}
use mathlib.Core.Logic.{∥∥₁_elim, ∥∥₁_map}
use mathlib.Core.Bool.{Bool-set}
use native.Mathlib.Bridge.{le_prop}
use native.Mathlib.Nat.{ℕ_set}
use Rattle.std.specs.List.{remove}
use Rattle.std.proofs.lemmas.List.{get_or_past, nil_from_length}
use Rattle.std.proofs.lemmas.List.Sums.{sum_by-cons, passes_at_first, fails_before_first}
use Rattle.std.proofs.lemmas.Bool.{eq-eqb, ne_eqb}
use Rattle.std.proofs.lemmas.Bool.Decides.{eqb_tells, leb_tells}
use Rattle.coins.specs.declared.ids.NodeId.{NodeId}
use Rattle.coins.specs.declared.mail.Kind.TheVariants.{Ask}
use Rattle.coins.specs.declared.mail.Mail.{Mail}
use Rattle.coins.specs.Mails.{Taking}
use Rattle.coins.specs.declared.mail.Untaken.TheVariants.{Later, Refused as Turned}
use Rattle.helper_coins.specs.declared.helper.Helper.{Helper}
use Rattle.helper_coins.specs.declared.holding.Holding.{Holding}
use Rattle.boss_coins.specs.declared.boss.Boss.{Boss}
use Rattle.coins.specs.Limits.{boss_number}
use Rattle.coins.specs.Letters.{seek}
use Rattle.helper_coins.specs.Holdings.{idle, waits}
use Rattle.helper_coins.specs.Helpers.{at, seek_waiting, flush_step, arrive_step}
use Rattle.helper_coins.specs.Helpers.{TookIn as HelperTook}
use Rattle.boss_coins.specs.Bosses.{receive_step}
use Rattle.boss_coins.specs.Bosses.{TookIn as BossTook}
use Rattle.runs.specs.System.{World, no_mail, no_helper, helper_at, mail_at, head, on_line, First, Reach}
use Rattle.runs.specs.Letter.{view, Quiet, holding_at, holdings_of, post_of, weigh, mailed}
use Rattle.runs.specs.Promise.{Promised, Taken, Welcome}
use Rattle.runs.specs.Promise as promise
use Rattle.runs.proofs.Tables.{by_test}
use Rattle.runs.proofs.Rules.{FineKind}
use Rattle.runs.proofs.Holders.{Tidy, held_at}
use Rattle.runs.proofs.Views.{held_get, held_length, post_none}
use Rattle.runs.proofs.Always.{Whole, always, fine_at}
use Rattle.runs.proofs.Theorems.{promised, quiet_of, quiet_goes_on, quiet_is_said}
use Rattle.coins.specs.declared.parcel.Parcel.{Parcel}
use Rattle.stage.specs.declared.command.Command.{Command}
use Rattle.stage.specs.declared.command.Command.TheVariants.{Flush}
use Rattle.coins.specs.declared.answer.Answer.{Answer}
use Rattle.coins.specs.Works.{no_work}
use Rattle.stage.specs.Scenes.{Scene, mails, world, sent_on, room, seek_helper, seek_holder, load}
use Rattle.stage.specs.Plays.{Out, boss_id, taken, to_helper, to_boss, play_pass, play_flush, plays, passing, next, Settled, Calmed}
use Rattle.stage.proofs.Looks.{no_parcel, mails_length, mail_of}
use Rattle.stage.proofs.Played.{mails_sent, mails_removed, is_first, is_giver, went, clash}
use Rattle.stage.proofs.Loads.{weighs, Lighter, Drops, mailed_sent, mailed_removed, arrive_lighter, flush_lighter, receive_lighter, load_helper, load_boss}

-- a message on a line has a first before it
head_found : (ms : List Mail) (s r : NodeId) (k : ℕ) → k < length ms → on_line s r (mail_at ms k) ≡ true → head ms s r ≤ k
head_found ms s r k l e =
    elim (leb_tells (head ms s r) k) [
      | inl t ↦ t.1
      | inr t ↦ absurd (let z : true ≡ false = sym e ∙ fails_before_first (on_line s r) ms k no_mail t.1 in clash (cc))
    ]

own_line : (m : Mail) → on_line m.sender m.receiver m ≡ true
own_line m = rw (eq-eqb m.sender.number m.sender.number refl, eq-eqb m.receiver.number m.receiver.number refl)

-- who is found is for a helper, and where none is found there is none
helper_at_place : (ps : List Parcel) (n : ℕ) → seek_helper ps n < length ps → (mail_at (mails ps) (seek_helper ps n)).receiver.number < n
helper_at_place ps n l = rw (mail_of ps (seek_helper ps n) l) (ltb-true _ _ (passes_at_first (λ (p : Parcel). ltb p.mail.receiver.number n) ps no_parcel l))

no_helper_before : (ps : List Parcel) (n j : ℕ) → length ps ≤ seek_helper ps n → j < length ps → n ≤ (mail_at (mails ps) j).receiver.number
no_helper_before ps n j h l = rw (mail_of ps j l) (ltb-false _ _ (fails_before_first (λ (p : Parcel). ltb p.mail.receiver.number n) ps j no_parcel (omega arith)))

holder_at : (hs : List Helper) → seek_holder hs < length hs → seek_waiting (helper_at hs (seek_holder hs)).holdings < 64
holder_at hs l = ltb-true _ _ (passes_at_first (λ (h : Helper). ltb (seek_waiting h.holdings) 64) hs no_helper l)

no_holder : (hs : List Helper) (j : ℕ) → length hs ≤ seek_holder hs → j < length hs → 64 ≤ seek_waiting (helper_at hs j).holdings
no_holder hs j h l = ltb-false _ _ (fails_before_first (λ (h : Helper). ltb (seek_waiting h.holdings) 64) hs j no_helper (omega arith))

not_waiting : (xs : List Holding) (j : ℕ) → j < seek_waiting xs → waits (at xs j) ≡ false
not_waiting xs j l = fails_before_first waits xs j idle l

-- a line on which nothing is under way has all its places
count_none : (ps : List Parcel) (s r : NodeId) → ((j : ℕ) → j < length ps → on_line s r (mail_at (mails ps) j) ≡ false) → count_by (λ p. on_line s r p.mail) ps ≡ 0
unfolding mails
count_none [] s r f = refl
count_none (p ∷ ps) s r f =
    let e : on_line s r p.mail ≡ false = f 0 (omega arith) in
    omega (arith, sum_by-cons (λ (q : Parcel). cond (on_line s r q.mail) 1 0) p ps, count_none ps s r (λ j l. f (suc j) (omega arith)), ap (λ (b : Bool). cond {A = ℕ} b 1 0) e)

free_line : (ps : List Parcel) (s r : NodeId) (n : ℕ) → r.number < n → ((j : ℕ) → j < length ps → n ≤ (mail_at (mails ps) j).receiver.number) → 1 ≤ room ps s r
unfolding room
free_line ps s r n l f =
    omega (arith, count_none ps s r (λ j lj. off (mail_at (mails ps) j) (f j lj)))
  where
    off : (m : Mail) → n ≤ m.receiver.number → on_line s r m ≡ false
    off m h = and_off (eqb m.sender.number s.number) _ (ne_eqb m.receiver.number r.number (λ q. omega arith))
      where
        and_off : (a b : Bool) → b ≡ false → a && b ≡ false
        and_off true b e = e
        and_off false b e = refl

-- a message that comes to a helper, and one that comes to the boss, leaves less to come
module _ (s : Scene) (W : Whole (world s)) (P : Promised (world s)) (from to : NodeId) (k : ℕ) (l : k < length (mails s.parcels)) (e : (mail_at (mails s.parcels) k).receiver ≡ to) where
  abbrev m : Mail
  m = mail_at (mails s.parcels) k

  post_lighter : (p : Option Mail) → mailed (mails (sent_on p no_work (remove s.parcels k))) + weigh m.kind ≡ mailed (mails s.parcels) + weighs p
  post_lighter p =
      omega (arith, ap mailed (mails_sent p no_work (remove s.parcels k)), mailed_sent p (mails (remove s.parcels k)), ap mailed (mails_removed s.parcels k), mailed_removed (mails s.parcels) k l)

  helper_falls : to.number < length s.helpers → load (world (to_helper s k to m).scene) < load (world s)
  helper_falls lt = go d.helper d.taking (P.helped k to.number (room s.parcels to boss_id) l (ap (λ (x : NodeId). x.number) e) lt) lighter
    where
      d : HelperTook
      d = arrive_step (helper_at s.helpers to.number) m.letter m.kind (room s.parcels to boss_id)

      T : Tidy to.number (helper_at s.helpers to.number)
      T = W.order.helpers to.number lt

      lighter : Lighter (helper_at s.helpers to.number) (weigh m.kind) d.helper d.taking
      lighter = arrive_lighter to.number (helper_at s.helpers to.number) T m.letter m.kind (room s.parcels to boss_id)

      go : (g : Helper) (t : Taking) → Taken t → Lighter (helper_at s.helpers to.number) (weigh m.kind) g t → load (world (taken (record { boss = s.boss; helpers = set s.helpers to.number g; parcels = s.parcels }) k t).scene) < load (world s)
      go g (Ok p) y h =
          omega (arith, load_helper (world s) to.number g (mails (sent_on p no_work (remove s.parcels k))) lt, post_lighter p, h)
      go g (Err Later) y h = absurd y
      go g (Err (Turned why)) y h = absurd y

  boss_falls : to.number ≡ boss_number → (m.kind ≡ Ask → 1 ≤ room s.parcels to from) → load (world (to_boss s k from to m).scene) < load (world s)
  boss_falls n free =
      go d.boss d.taking (P.received k (room s.parcels to from) l (ap (λ (x : NodeId). x.number) e ∙ n)) (receive_lighter s.boss m.sender m.letter m.kind (room s.parcels to from) free)
    where
      d : BossTook
      d = receive_step s.boss m.sender m.letter m.kind (room s.parcels to from)

      go : (c : Boss) (t : Taking) → Welcome (room s.parcels to from) t → Drops (weigh m.kind) t → load (world (taken (record { boss = c; helpers = s.helpers; parcels = s.parcels }) k t).scene) < load (world s)
      go c (Ok p) y h = omega (arith, load_boss (world s) c (mails (sent_on p no_work (remove s.parcels k))), post_lighter p, h)
      go c (Err Later) y h = absurd h
      go c (Err (Turned why)) y h = absurd y

  -- an asker is a helper, so there is a place for its answer when nothing is under way to a helper
  asker : ((j : ℕ) → j < length s.parcels → length s.helpers ≤ (mail_at (mails s.parcels) j).receiver.number) → from ≡ m.sender → m.kind ≡ Ask → 1 ≤ room s.parcels to from
  asker none f q =
      free_line s.parcels to from (length s.helpers)
      (omega (arith, ap (λ (x : NodeId). x.number) f, (subst (FineKind (length (holdings_of m.letter.number s.helpers)) m) q (fine_at (world s) W k l)).1, held_length m.letter.number s.helpers)) none

-- what comes to pass by itself
data Next (s : Scene) (c : Command) : Type 0 where
  goes_to_helper : (k : ℕ) → k < length s.parcels → (mail_at (mails s.parcels) k).receiver.number < length s.helpers → c ≡ passing (mail_at (mails s.parcels) k) → Next s c
  goes_to_boss : 0 < length s.parcels → ((j : ℕ) → j < length s.parcels → length s.helpers ≤ (mail_at (mails s.parcels) j).receiver.number) → c ≡ passing (mail_at (mails s.parcels) 0) → Next s c
  to_flush : (i : ℕ) → length s.parcels ≡ 0 → i < length s.helpers → seek_waiting (helper_at s.helpers i).holdings < 64 → c ≡ Flush (helper_at s.helpers i).me → Next s c

next_is : (s : Scene) (c : Command) → next s ≡ Some c → Next s c
next_is s c =
    by_test P (ltb k (length s.parcels)) _ _
    (λ t e. goes_to_helper k (ltb-true _ _ t) (helper_at_place s.parcels (length s.helpers) (ltb-true _ _ t)) (cc))
    (λ f. by_test P (ltb 0 (length s.parcels)) _ _
    (λ t e. goes_to_boss (ltb-true _ _ t) (λ j lj. no_helper_before s.parcels (length s.helpers) j (ltb-false _ _ f) lj) (cc))
    (λ g. by_test P (ltb i (length s.helpers)) _ _
    (λ t e. to_flush i (omega (arith, ltb-false _ _ g)) (ltb-true _ _ t) (holder_at s.helpers (ltb-true _ _ t)) (cc))
    (λ _ e. clash (cc))))
  where
    k : ℕ
    k = seek_helper s.parcels (length s.helpers)

    i : ℕ
    i = seek_holder s.helpers

    P : Option Command → Type 0
    P o = o ≡ Some c → Next s c

-- the first message of a line that has one comes
pass_falls : (s : Scene) → Whole (world s) → Promised (world s) → (k : ℕ) → k < length s.parcels →
    ((mail_at (mails s.parcels) k).receiver.number < length s.helpers) ⊎ ((j : ℕ) → j < length s.parcels → length s.helpers ≤ (mail_at (mails s.parcels) j).receiver.number) →
    load (world (play_pass s (mail_at (mails s.parcels) k).sender (mail_at (mails s.parcels) k).receiver).scene) < load (world s)
pass_falls s W P k l way =
    by_test Q (ltb h (length s.parcels)) _ _
    (λ _. by_test Q (ltb to.number (length s.helpers)) _ _
    (λ t. helper_falls s W P from to h inside first.2 (ltb-true _ _ t))
    (λ f. elim way [
      | inl y ↦ absurd (omega (arith, ltb-false _ _ f, y))
      | inr none ↦ boss_falls s W P from to h inside first.2 (must_be_boss none) (asker s W P from to h inside first.2 none (sym first.1))
    ]))
    (λ f. absurd (omega (arith, ltb-false _ _ f, found)))
  where
    ms : List Mail
    ms = mails s.parcels

    from : NodeId
    from = (mail_at (mails s.parcels) k).sender

    to : NodeId
    to = (mail_at (mails s.parcels) k).receiver

    h : ℕ
    h = head (mails s.parcels) from to

    Q : Out → Type 0
    Q o = load (world o.scene) < load (world s)

    found : h < length s.parcels
    found = omega (arith, head_found ms from to k (omega (arith, mails_length s.parcels)) (own_line (mail_at ms k)))

    inside : h < length (mails s.parcels)
    inside = omega (arith, found, mails_length s.parcels)

    first : First ms h × ((mail_at ms h).sender ≡ from) × ((mail_at ms h).receiver ≡ to)
    first = is_first ms from to inside

    must_be_boss : ((j : ℕ) → j < length s.parcels → length s.helpers ≤ (mail_at (mails s.parcels) j).receiver.number) → to.number ≡ boss_number
    must_be_boss none =
        elim (eqb_tells to.number boss_number) [
          | inl t ↦ t.1
          | inr t ↦ absurd (omega (arith, P.addressed k (omega (arith, mails_length s.parcels)) t.1, none k l))
        ]

flush_falls : (s : Scene) → Whole (world s) → (i : ℕ) → length s.parcels ≡ 0 → i < length s.helpers → seek_waiting (helper_at s.helpers i).holdings < 64 →
    load (world (play_flush s (helper_at s.helpers i).me).scene) < load (world s)
flush_falls s W i z l q =
    subst (λ (by : NodeId). load (world (play_flush s by).scene) < load (world s)) (named (helper_at s.helpers i).me T.named)
    (by_test (λ (o : Out). load (world o.scene) < load (world s)) (ltb i (length s.helpers)) _ _
    (λ _. omega (
      arith,
      load_helper (world s) i (flush_step h places).helper (mails (sent_on (flush_step h places).post no_work s.parcels)) l,
      ap mailed (mails_sent (flush_step h places).post no_work s.parcels),
      mailed_sent (flush_step h places).post (mails s.parcels),
      flush_lighter i h T places free q,
    ))
    (λ f. absurd (omega (arith, ltb-false _ _ f))))
  where
    h : Helper
    h = helper_at s.helpers i

    T : Tidy i (helper_at s.helpers i)
    T = W.order.helpers i l

    places : ℕ
    places = room s.parcels (record { number = i }) boss_id

    free : 1 ≤ places
    free = free_line s.parcels (record { number = i }) boss_id (suc boss_number) (omega arith) (λ j lj. absurd (omega arith))

    named : (x : NodeId) → x.number ≡ i → record { number = i } ≡ x
    named x e = let z : ◌≡◌ {A = NodeId} (record { number = i }) (record { number = x.number }) = cc in z

falls_by : (s : Scene) (c : Command) → Whole (world s) → Promised (world s) → Next s c → load (world (plays s c no_work).scene) < load (world s)
falls_by s c W P (goes_to_helper k l y e) = subst (λ (d : Command). load (world (plays s d no_work).scene) < load (world s)) (sym e) (pass_falls s W P k l (inl y))
falls_by s c W P (goes_to_boss l none e) = subst (λ (d : Command). load (world (plays s d no_work).scene) < load (world s)) (sym e) (pass_falls s W P 0 l (inr none))
falls_by s c W P (to_flush i z l q e) = subst (λ (d : Command). load (world (plays s d no_work).scene) < load (world s)) (sym e) (flush_falls s W i z l q)

-- Each turn leaves less to come.
pub falls : (s t : Scene) (c : Command) (a : Answer) → plays s c no_work ≡ record { scene = t; answer = a } → ∥ Reach (world s) ∥₁ → next s ≡ Some c → load (world t) < load (world s)
falls s t c a h q n =
    ∥∥₁_elim q le_prop (λ run. subst (λ (o : Out). load (world o.scene) < load (world s)) h (falls_by s c (always run) (promised (world s) run) (next_is s c n)))

next_no_give : (s : Scene) (c : Command) → Next s c → is_giver c ≡ false
next_no_give s c (goes_to_helper k l y e) = ap is_giver e
next_no_give s c (goes_to_boss l none e) = ap is_giver e
next_no_give s c (to_flush i z l q e) = ap is_giver e

-- Each turn leaves quiet what is quiet.
pub calm_on : (w : World) (s t : Scene) (c : Command) (a : Answer) → plays s c no_work ≡ record { scene = t; answer = a } → ∥ Reach (world s) ∥₁ → next s ≡ Some c →
    ((letter : ℕ) → 1 ≤ letter → Quiet (view letter w) → Quiet (view letter (world s))) → (letter : ℕ) → 1 ≤ letter → Quiet (view letter w) → Quiet (view letter (world t))
calm_on w s t c a h q n before letter pos quiet =
    ⊎_elim
    (λ g. quiet_of (view letter (world t)) (∥∥₁_map q (λ run. (quiet_goes_on (world s) (world t) _ letter pos run now (promise.onward promise.still g.step (g.ungiven (next_no_give s c (next_is s c n)) letter))).0)))
    (λ e. subst (λ (v : World). Quiet (view letter v)) (sym e) now)
    (went s t c no_work (Ok a) h q)
  where
    now : Quiet (view letter (world s))
    now = before letter pos quiet

-- When nothing comes by itself any more, nothing is under way and no coins wait.
pub settled : (s : Scene) → ∥ Reach (world s) ∥₁ → next s ≡ None → Settled (world s)
unfolding mails
settled s q =
    by_test P (ltb (seek_helper s.parcels (length s.helpers)) (length s.parcels)) _ _ (λ _ e. clash (cc))
    (λ _. by_test P (ltb 0 (length s.parcels)) _ _ (λ _ e. clash (cc))
    (λ f. by_test P (ltb (seek_holder s.helpers) (length s.helpers)) _ _ (λ _ e. clash (cc))
    (λ g _. record { empty = ap mails (nil_from_length s.parcels (omega (arith, ltb-false _ _ f))); ready = λ letter i pos. ready (ltb-false _ _ g) letter i pos })))
  where
    P : Option Command → Type 0
    P o = o ≡ None → Settled (world s)

    within : (x : ℕ) → length s.helpers ≤ seek_holder s.helpers → (letter : ℕ) → 1 ≤ letter → x < length s.helpers → (run : Reach (world s)) → waits (holding_at (holdings_of letter s.helpers) x) ≡ false
    within x g letter pos l run =
        let T : Tidy x (helper_at s.helpers x) = (always run).order.helpers x l in
        let none = no_holder s.helpers x g l in
        let h = helper_at s.helpers x in
        ap waits (held_get letter s.helpers x l ∙ held_at x h letter T pos) ∙
        elim (leb_tells (length h.holdings) (seek h.letters letter)) [
          | inl y ↦ ap waits (get_or_past h.holdings (seek h.letters letter) idle y.1)
          | inr y ↦ not_waiting h.holdings (seek h.letters letter) (omega (arith, y.1, none, T.holdings))
        ]

    ready : length s.helpers ≤ seek_holder s.helpers → (letter i : ℕ) → 1 ≤ letter → waits (holding_at (holdings_of letter s.helpers) i) ≡ false
    ready g letter i pos =
        elim (leb_tells (length s.helpers) i) [
          | inl y ↦ ap waits (get_or_past (holdings_of letter s.helpers) i idle (omega (arith, y.1, held_length letter s.helpers)))
          | inr y ↦ ∥∥₁_elim q (Bool-set _ _) (within i g letter pos y.1)
        ]

-- So all coins of what is quiet are back.
pub calmed : (w v : World) → ∥ Reach v ∥₁ → Settled v → ((letter : ℕ) → 1 ≤ letter → Quiet (view letter w) → Quiet (view letter v)) → Calmed w v
calmed w v q S c =
    record {
      quiet = c;
      back = λ letter pos quiet.
          ∥∥₁_elim q (ℕ_set _ _) (λ run. (quiet_is_said v (record { number = letter }) pos run (c letter pos quiet) (ap (post_of letter) S.empty ∙ post_none letter) (λ i. S.ready letter i pos)).0);
    }

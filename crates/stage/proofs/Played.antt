-- What is played is a step of the system, or nothing; and only say answers done.
use Rattle.std.proofs.Common.{◌≡◌, ℕ, suc, ◌+◌, ◌<◌, ◌≤◌, Bool, true, false, cond, ◌||◌, eqb, ltb, leb, ◌⊎◌, List, length, get_or, take, drop, set, Some, sym, refl, ap, ◌∙◌, subst, inl, inr, ⊎_elim, arith, ltb-false, ltb-true, None, Ok, Option, Result, Err}
use mathlib.Core.Logic.{∥∥₁_elim, ∥∥₁_map}
use mathlib.Core.Bool.{Bool-set}
use Rattle.std.specs.List.{remove}
use Rattle.std.proofs.lemmas.List.{map_push, map-append, take-map, drop-map}
use Rattle.std.proofs.lemmas.List.Sums.{passes_at_first}
use Rattle.std.proofs.lemmas.Bool.Decides.{eqb_tells}
use Rattle.std.proofs.lemmas.Bool.{eqb-true}
use Rattle.coins.specs.declared.ids.LetterId.{LetterId}
use Rattle.coins.specs.declared.ids.NodeId.{NodeId}
use Rattle.coins.specs.declared.answer.Answer.{Answer}
use Rattle.coins.specs.declared.answer.Answer.TheVariants.{Fine, Done}
use Rattle.coins.specs.declared.answer.Refusal.{Refusal}
use Rattle.coins.specs.declared.mail.Kind.{Kind}
use Rattle.coins.specs.declared.mail.Kind.TheVariants.{Work as Works, More, Back, NoMore, Ask}
use Rattle.coins.specs.declared.mail.Mail.{Mail}
use Rattle.coins.specs.Mails.{Taking}
use Rattle.coins.specs.declared.mail.Untaken.TheVariants.{Later, Refused as Turned}
use Rattle.helper_coins.specs.declared.helper.Helper.{Helper}
use Rattle.boss_coins.specs.declared.boss.Boss.{Boss}
use Rattle.coins.specs.Limits.{grant, limit, boss_number}
use Rattle.coins.specs.Letters.{seek, place}
use Rattle.helper_coins.specs.Helpers.{at, share_step, rest_step, arrive_step}
use Rattle.helper_coins.specs.Helpers.{Called as HelperCalled}
use Rattle.boss_coins.specs.Bosses.{give_step, say_step, receive_step}
use Rattle.boss_coins.specs.Bosses.{Called as BossCalled, TookIn as BossTook}
use Rattle.runs.specs.System.{World, no_mail, helper_at, mail_at, head, on_line, First, sent, Step, gives, says, shares, rests, flushes, comes, returns, Reach, then, Runs, onward}
use Rattle.runs.specs.Letter.{is_done}
use Rattle.runs.specs.Promise.{Promised, Taken, Welcome, is_give}
use Rattle.runs.proofs.Tables.{by_test, placed, both_true}
use Rattle.runs.proofs.Books.{closed}
use Rattle.runs.proofs.Queued.{same_node}
use Rattle.runs.proofs.Always.{always}
use Rattle.runs.proofs.Theorems.{promised_of}
use Rattle.coins.specs.declared.parcel.Parcel.{Parcel}
use Rattle.stage.specs.declared.command.Command.{Command}
use Rattle.stage.specs.declared.command.Command.TheVariants.{Give, Share, Rest, Say, Pass, Flush}
use Rattle.std.specs.declared.alloc.AllocError.{AllocError}
use Rattle.coins.specs.Works.{Work, no_work}
use Rattle.stage.specs.Scenes.{Scene, mails, world, sent_on, room}
use Rattle.coins.specs.Parcels.{parcel_of}
use Rattle.stage.specs.Plays.{Out, boss_id, refuse, boss_did, helper_did, play_give, play_say, play_share, play_rest, play_flush, taken, to_helper, to_boss, play_pass, plays, Outcome, Onward, Said, next, Lets}
use Rattle.stage.proofs.Looks.{mails_length}

pub clash : {P : Type 0} → ◌≡◌ {A = ℕ} 0 1 → P
clash z = absurd (omega arith)

-- the messages of a scene after a step
pub mails_sent : (p : Option Mail) (work : Work) (ps : List Parcel) → mails (sent_on p work ps) ≡ sent p (mails ps)
unfolding mails
mails_sent None work ps = refl
mails_sent (Some m) work ps = map_push (λ (p : Parcel). p.mail) ps (parcel_of m work)

pub mails_removed : (ps : List Parcel) (k : ℕ) → mails (remove ps k) ≡ remove (mails ps) k
unfolding mails
mails_removed ps k = map-append (λ (p : Parcel). p.mail) (take k ps) (drop (suc k) ps) ∙ rw (take-map (λ (p : Parcel). p.mail) k ps, drop-map (λ (p : Parcel). p.mail) (suc k) ps)

-- the message that comes is the first of its line
at_head : (ms : List Mail) (s r : NodeId) → head ms s r < length ms → on_line s r (mail_at ms (head ms s r)) ≡ true
at_head ms s r l = passes_at_first (on_line s r) ms no_mail l

pub is_first : (ms : List Mail) (s r : NodeId) → head ms s r < length ms → First ms (head ms s r) × ((mail_at ms (head ms s r)).sender ≡ s) × ((mail_at ms (head ms s r)).receiver ≡ r)
is_first ms s r l =
    let e = both_true _ _ (at_head ms s r l) in
    let a : (mail_at ms (head ms s r)).sender ≡ s = same_node _ _ (eqb-true _ _ e.0) in
    let b : (mail_at ms (head ms s r)).receiver ≡ r = same_node _ _ (eqb-true _ _ e.1) in
    (record { inside = l; foremost = ap (λ (x : NodeId). head ms x (mail_at ms (head ms s r)).receiver) a ∙ ap (λ (y : NodeId). head ms s y) b }, a, b)

-- who answers done
give_fine : (b : Boss) (letter : LetterId) (to : NodeId) (places : ℕ) → (give_step b letter to places).outcome.answer ≡ Done → ⊥
give_fine b letter to places =
    by_test P (ltb 255 to.number) _ _ (λ _ e. clash (cc))
    (λ _. by_test P (ltb (place b.letters letter.number) 64) _ _
    (λ _. by_test P (ltb (get_or b.given (place b.letters letter.number) 0 + grant) limit) _ _ (λ _. by_test P (eqb places 0) _ _ (λ _ e. clash (cc)) (λ _ e. clash (cc))) (λ _ e. clash (cc)))
    (λ _. by_test P (ltb b.highest letter.number) _ _
    (λ _. by_test P (ltb (seek b.letters 0) 64) _ _ (λ _. by_test P (eqb places 0) _ _ (λ _ e. clash (cc)) (λ _ e. clash (cc))) (λ _ e. clash (cc)))
    (λ _ e. clash (cc))))
  where
    P : BossCalled → Type 0
    P d = d.outcome.answer ≡ Done → ⊥

share_fine : (h : Helper) (letter : LetterId) (to : NodeId) (peer boss : ℕ) → (share_step h letter to peer boss).outcome.answer ≡ Done → ⊥
share_fine h letter to peer boss =
    by_test P (ltb 255 to.number) _ _ (λ _ e. clash (cc))
    (λ _. by_test P (ltb (place h.letters letter.number) 64) _ _
    (λ _. let x = at h.holdings (place h.letters letter.number) in
    by_test P x.working _ _
    (λ _. by_test P (ltb x.coins 2) _ _ (λ _. by_test P (x.asked || eqb boss 0) _ _ (λ _ e. clash (cc)) (λ _ e. clash (cc)))
    (λ _. by_test P (eqb to.number h.me.number) _ _ (λ _ e. clash (cc)) (λ _. by_test P (eqb peer 0) _ _ (λ _ e. clash (cc)) (λ _ e. clash (cc)))))
    (λ _ e. clash (cc)))
    (λ _ e. clash (cc)))
  where
    P : HelperCalled → Type 0
    P d = d.outcome.answer ≡ Done → ⊥

rest_fine : (h : Helper) (letter : LetterId) (boss : ℕ) → (rest_step h letter boss).outcome.answer ≡ Done → ⊥
rest_fine h letter boss =
    by_test P (ltb (place h.letters letter.number) 64) _ _
    (λ _. by_test P (at h.holdings (place h.letters letter.number)).working _ _ (λ _. by_test P (eqb boss 0) _ _ (λ _ e. clash (cc)) (λ _ e. clash (cc))) (λ _ e. clash (cc)))
    (λ _ e. clash (cc))
  where
    P : HelperCalled → Type 0
    P d = d.outcome.answer ≡ Done → ⊥

-- a step, and that it is no give unless it may be
pub record Goes (giver : Bool) (w v : World) : Type 0 where
  pub step : Step w v
  pub ungiven : giver ≡ false → (letter : ℕ) → is_give letter step ≡ false

-- a step or nothing; and done is answered only if it is meant to be
pub record Fair (s : Scene) (giver : Bool) (D : Type 0) (o : Out) : Type 0 where
  pub goes : Goes giver (world s) (world o.scene) ⊎ (world o.scene ≡ world s)
  pub done : o.answer ≡ Done → D

refuses : (s : Scene) (g : Bool) (why : Refusal) (D : Type 0) → Fair s g D (refuse s why)
refuses s g why D = record { goes = inr refl; done = λ e. clash (cc) }

plainly : {g : Bool} {w v : World} (t : Step w v) → ((letter : ℕ) → is_give letter t ≡ false) → Goes g w v
plainly t f = record { step = t; ungiven = λ _. f }

answers : (a : Answer) → (a ≡ Done → ⊥) → (D : Type 0) → a ≡ Done → D
answers a f D e = absurd (f e)

by_boss : (s : Scene) (b : Boss) (p : Option Mail) (work : Work) (a : Answer) → (a ≡ Done → ⊥) →
    Goes true (world s) (record { boss = b; helpers = s.helpers; post = sent p (mails s.parcels) }) → Fair s true ⊥ (boss_did s b p work a)
by_boss s b p work a f t =
    record { goes = inl (subst (λ (ms : List Mail). Goes true (world s) (record { boss = b; helpers = s.helpers; post = ms })) (sym (mails_sent p work s.parcels)) t); done = answers a f ⊥ }

by_helper : (s : Scene) (i : ℕ) (h : Helper) (p : Option Mail) (work : Work) (a : Answer) → (a ≡ Done → ⊥) →
    Goes false (world s) (record { boss = s.boss; helpers = set s.helpers i h; post = sent p (mails s.parcels) }) → Fair s false ⊥ (helper_did s i h p work a)
by_helper s i h p work a f t =
    record { goes = inl (subst (λ (ms : List Mail). Goes false (world s) (record { boss = s.boss; helpers = set s.helpers i h; post = ms })) (sym (mails_sent p work s.parcels)) t); done = answers a f ⊥ }

fair_give : (s : Scene) (letter : LetterId) (to : NodeId) (work : Work) → Fair s true ⊥ (play_give s letter to work)
fair_give s letter to work =
    by_test (Fair s true ⊥) (ltb to.number (length s.helpers)) _ _
    (λ t. by_boss s _ _ work _ (give_fine s.boss letter to (room s.parcels boss_id to)) (record { step = gives (world s) letter to (room s.parcels boss_id to) (ltb-true _ _ t); ungiven = λ e. clash (cc) }))
    (λ _. refuses s true _ ⊥)

fair_share : (s : Scene) (by : NodeId) (letter : LetterId) (to : NodeId) (work : Work) → Fair s false ⊥ (play_share s by letter to work)
fair_share s by letter to work =
    by_test (Fair s false ⊥) (ltb by.number (length s.helpers)) _ _
    (λ t. by_test (Fair s false ⊥) (ltb to.number (length s.helpers)) _ _
    (λ u. by_helper s by.number _ _ work _ (share_fine (helper_at s.helpers by.number) letter to (room s.parcels by to) (room s.parcels by boss_id))
    (plainly (shares (world s) by.number letter to (room s.parcels by to) (room s.parcels by boss_id) (ltb-true _ _ t) (ltb-true _ _ u)) (λ _. refl)))
    (λ _. refuses s false _ ⊥))
    (λ _. refuses s false _ ⊥)

fair_rest : (s : Scene) (by : NodeId) (letter : LetterId) → Fair s false ⊥ (play_rest s by letter)
fair_rest s by letter =
    by_test (Fair s false ⊥) (ltb by.number (length s.helpers)) _ _
    (λ t. by_helper s by.number _ _ no_work _ (rest_fine (helper_at s.helpers by.number) letter (room s.parcels by boss_id)) (plainly (rests (world s) by.number letter (room s.parcels by boss_id) (ltb-true _ _ t)) (λ _. refl)))
    (λ _. refuses s false _ ⊥)

fair_flush : (s : Scene) (by : NodeId) → Fair s false ⊥ (play_flush s by)
fair_flush s by =
    by_test (Fair s false ⊥) (ltb by.number (length s.helpers)) _ _
    (λ t. by_helper s by.number _ _ no_work Fine (λ e. clash (cc)) (plainly (flushes (world s) by.number (room s.parcels by boss_id) (ltb-true _ _ t)) (λ _. refl)))
    (λ _. refuses s false _ ⊥)

-- what comes is taken, or the boss leaves it for later
came : (s : Scene) (k : ℕ) (p : Option Mail) (b : Boss) (hs : List Helper) → Goes false (world s) (record { boss = b; helpers = hs; post = sent p (remove (mails s.parcels) k) }) →
    Goes false (world s) (world (record { boss = b; helpers = hs; parcels = sent_on p no_work (remove s.parcels k) }))
came s k p b hs t =
    subst (λ (ms : List Mail). Goes false (world s) (record { boss = b; helpers = hs; post = ms })) (sym (mails_sent p no_work (remove s.parcels k) ∙ ap (λ (ms : List Mail). sent p ms) (mails_removed s.parcels k))) t

-- what the boss leaves for later leaves the boss as it was
abbrev Unmoved : Boss → Boss → Taking → Type 0
Unmoved b c (Ok p) = Unit {0}
Unmoved b c (Err Later) = c ≡ b
Unmoved b c (Err (Turned why)) = Unit {0}

unmoved : (b : Boss) (sender : NodeId) (letter : LetterId) (kind : Kind) (places : ℕ) → Unmoved b (receive_step b sender letter kind places).boss (receive_step b sender letter kind places).taking
unmoved b sender letter (Works c) places = tt
unmoved b sender letter (More c) places = tt
unmoved b sender letter NoMore places = tt
unmoved b sender letter (Back c) places =
    by_test P (eqb c 0 || leb 64 (place b.letters letter.number)) _ _ (λ _. tt)
    (λ _. by_test P (leb (get_or b.back (place b.letters letter.number) 0 + c) (get_or b.given (place b.letters letter.number) 0)) _ _ (λ _. tt) (λ _. tt))
  where
    P : BossTook → Type 0
    P d = Unmoved b d.boss d.taking
unmoved b sender letter Ask places =
    by_test P (eqb places 0) _ _ (λ _. refl)
    (λ _. by_test P (ltb (place b.letters letter.number) 64) _ _
    (λ _. by_test P (ltb (get_or b.given (place b.letters letter.number) 0 + grant) limit) _ _ (λ _. tt) (λ _. tt)) (λ _. tt))
  where
    P : BossTook → Type 0
    P d = Unmoved b d.boss d.taking

module _ (s : Scene) (P : Promised (world s)) (from to : NodeId) (k : ℕ) (l : k < length (mails s.parcels)) (f : First (mails s.parcels) k) (b : (mail_at (mails s.parcels) k).receiver ≡ to) where
  abbrev m : Mail
  m = mail_at (mails s.parcels) k

  fair_helper : (places : ℕ) → to.number < length s.helpers → (g : Helper) (t : Taking) → arrive_step (helper_at s.helpers to.number) m.letter m.kind places ≡ record { helper = g; taking = t } → Taken t →
      Fair s false ⊥ (taken (record { boss = s.boss; helpers = set s.helpers to.number g; parcels = s.parcels }) k t)
  fair_helper places lt g (Ok p) e y =
      record { goes = inl (came s k p s.boss (set s.helpers to.number g) (plainly (comes (world s) k to.number places g p f (ap (λ (x : NodeId). x.number) b) lt e) (λ _. refl))); done = λ q. clash (cc) }
  fair_helper places lt g (Err Later) e y = absurd y
  fair_helper places lt g (Err (Turned why)) e y = absurd y

  fair_boss : (places : ℕ) → to.number ≡ boss_number → (c : Boss) (t : Taking) → receive_step s.boss m.sender m.letter m.kind places ≡ record { boss = c; taking = t } → Welcome places t → Unmoved s.boss c t →
      Fair s false ⊥ (taken (record { boss = c; helpers = s.helpers; parcels = s.parcels }) k t)
  fair_boss places n c (Ok p) e y u =
      record { goes = inl (came s k p c s.helpers (plainly (returns (world s) k places c p f (ap (λ (x : NodeId). x.number) b ∙ n) e) (λ _. refl))); done = λ q. clash (cc) }
  fair_boss places n c (Err Later) e y u =
      record { goes = inr (ap (λ (x : Boss). record { boss = x; helpers = s.helpers; post = mails s.parcels }) u); done = λ q. clash (cc) }
  fair_boss places n c (Err (Turned why)) e y u = absurd y

  -- who is no helper is the boss
  must_be_boss : length s.helpers ≤ to.number → to.number ≡ boss_number
  must_be_boss le =
      elim (eqb_tells to.number boss_number) [
        | inl t ↦ t.1
        | inr t ↦ absurd (let x = ap (λ (y : NodeId). y.number) b in omega (arith, P.addressed k l (λ q. t.1 (sym x ∙ q)), le, x))
      ]

  fair_at : Fair s false ⊥ (cond (ltb to.number (length s.helpers)) (to_helper s k to m) (to_boss s k from to m))
  fair_at =
      by_test (Fair s false ⊥) (ltb to.number (length s.helpers)) _ _
      (λ t. let lt : to.number < length s.helpers = ltb-true _ _ t in
      fair_helper (room s.parcels to boss_id) lt _ _ refl (P.helped k to.number (room s.parcels to boss_id) l (ap (λ (x : NodeId). x.number) b) lt))
      (λ u. let n : to.number ≡ boss_number = must_be_boss (ltb-false _ _ u) in
      fair_boss (room s.parcels to from) n _ _ refl (P.received k (room s.parcels to from) l (ap (λ (x : NodeId). x.number) b ∙ n)) (unmoved s.boss m.sender m.letter m.kind (room s.parcels to from)))

fair_pass : (s : Scene) → Promised (world s) → (from to : NodeId) → Fair s false ⊥ (play_pass s from to)
fair_pass s P from to =
    by_test (Fair s false ⊥) (ltb (head (mails s.parcels) from to) (length s.parcels)) _ _
    (λ t. let l : head (mails s.parcels) from to < length (mails s.parcels) = omega (arith, ltb-true _ _ t, mails_length s.parcels) in
    let x = is_first (mails s.parcels) from to l in
    fair_at s P from to (head (mails s.parcels) from to) l x.0 x.2)
    (λ _. refuses s false _ ⊥)

-- what say leaves when it answers done
said_done : (w : World) → ∥ Reach w ∥₁ → (letter : LetterId) → (say_step w.boss letter).outcome.answer ≡ Done → (1 ≤ letter.number) × (is_done (say_step w.boss letter).boss letter.number ≡ true)
said_done w r letter =
    by_test P (ltb (place w.boss.letters n) 64) _ _
    (λ t. let l : place w.boss.letters n < 64 = ltb-true _ _ t in
    by_test P (eqb (get_or w.boss.given (place w.boss.letters n) 0) (get_or w.boss.back (place w.boss.letters n) 0)) _ _
    (λ _ _. (placed w.boss.letters n l, ∥∥₁_elim r (Bool-set _ _) (λ q. (closed w.boss (always q).order.boss n l).done_is)))
    (λ _ e. clash (cc)))
    (λ _ e. clash (cc))
  where
    n : ℕ
    n = letter.number

    P : BossCalled → Type 0
    P d = d.outcome.answer ≡ Done → (1 ≤ n) × (is_done d.boss n ≡ true)

fair_say : (s : Scene) → ∥ Reach (world s) ∥₁ → (letter : LetterId) → Fair s false (Said (Say letter) (world (play_say s letter).scene)) (play_say s letter)
fair_say s r letter =
    record {
      goes = inl goes;
      done = λ e.
          let x = said_done (world s) r letter (cc) in
          (x.1, ((promised_of (world (play_say s letter).scene) (∥∥₁_map r (λ q. then q goes.step))).sound letter.number x.0).quiet x.1);
    }
  where
    quietly : (say_step s.boss letter).outcome.post ≡ None
    quietly =
        by_test (λ (d : BossCalled). d.outcome.post ≡ None) (ltb (place s.boss.letters letter.number) 64) _ _
        (λ _. by_test (λ (d : BossCalled). d.outcome.post ≡ None) (eqb (get_or s.boss.given (place s.boss.letters letter.number) 0) (get_or s.boss.back (place s.boss.letters letter.number) 0)) _ _ (λ _. refl) (λ _. refl))
        (λ _. refl)

    goes : Goes false (world s) (world (play_say s letter).scene)
    goes = subst (λ (p : Option Mail). Goes false (world s) (record { boss = (say_step s.boss letter).boss; helpers = s.helpers; post = sent p (mails s.parcels) })) quietly (plainly (says (world s) letter) (λ _. refl))

-- only a give is one
abbrev pub is_giver : Command → Bool
is_giver (Give letter to) = true
is_giver (Share by letter to) = false
is_giver (Rest by letter) = false
is_giver (Say letter) = false
is_giver (Pass from to) = false
is_giver (Flush by) = false

pub fair : (s : Scene) (c : Command) (work : Work) → ∥ Reach (world s) ∥₁ → Fair s (is_giver c) (Said c (world (plays s c work).scene)) (plays s c work)
fair s (Give letter to) work r = fair_give s letter to work
fair s (Share by letter to) work r = fair_share s by letter to work
fair s (Rest by letter) work r = fair_rest s by letter
fair s (Say letter) work r = fair_say s r letter
fair s (Pass from to) work r = fair_pass s (promised_of (world s) r) from to
fair s (Flush by) work r = fair_flush s by

-- what a call that is as played, or found no memory, makes of the world
module _ (s t : Scene) (c : Command) (work : Work) (r : Result Answer AllocError) (h : Outcome (plays s c work) s t r) (q : ∥ Reach (world s) ∥₁) where
  pub went : Goes (is_giver c) (world s) (world t) ⊎ (world t ≡ world s)
  went = by_result r h
    where
      by_result : (x : Result Answer AllocError) → Outcome (plays s c work) s t x → Goes (is_giver c) (world s) (world t) ⊎ (world t ≡ world s)
      by_result (Ok a) e = subst (λ (o : Out). Goes (is_giver c) (world s) (world o.scene) ⊎ (world o.scene ≡ world s)) e (fair s c work q).goes
      by_result (Err x) e = inr (ap world e)

  pub goes_on : Onward (world s) (world t)
  goes_on = ⊎_elim (λ g. inl g.step) inr went

  pub reach_on : ∥ Reach (world t) ∥₁
  reach_on = ∥∥₁_map q (λ p. ⊎_elim (λ g. then p g) (λ e. subst Reach (sym e) p) goes_on)

-- what was played where there was memory
pub answered_as : (s t : Scene) (c : Command) (work : Work) (r : Result Answer AllocError) (a : Answer) → Outcome (plays s c work) s t r → r ≡ Ok a → plays s c work ≡ record { scene = t; answer = a }
answered_as s t c work r a h e = subst (λ (x : Result Answer AllocError). Outcome (plays s c work) s t x) e h

pub done_on : (s t : Scene) (c : Command) (work : Work) (r : Result Answer AllocError) → Outcome (plays s c work) s t r → ∥ Reach (world s) ∥₁ → r ≡ Ok Done → Said c (world t)
done_on s t c work r h q d =
    let o = answered_as s t c work r Done h d in
    subst (λ (x : Out). Said c (world x.scene)) o ((fair s c work q).done (ap (λ (x : Out). x.answer) o))

pub lets_on : (s m t : Scene) (c : Command) (a : Answer) → plays m c no_work ≡ record { scene = t; answer = a } → Lets s m → next m ≡ Some c → Lets s t
lets_on s m t c a h l n = subst (Lets s) (ap (λ (o : Out). o.scene) h) (Lets.onward c l n)

pub runs_on : (w v u : World) → Runs w v → Onward v u → Runs w u
runs_on w v u p (inl t) = onward p t
runs_on w v u p (inr e) = subst (Runs w) (sym e) p

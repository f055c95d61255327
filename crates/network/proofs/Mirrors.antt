-- Worlds over lines that lose nothing, as mirrors of what is seen of the lines of the network: each step of the one is
-- a step of the other.
use Rattle.std.proofs.Common.{◌≡◌, ℕ, suc, ◌<◌, ◌≤◌, Bool, true, false, cond, ◌&&◌, eqb, ◌⊎◌, List, [], ◌∷◌, ◌++◌, map, length, All, filter, sym, refl, ap, ◌∙◌, subst, inl, inr, arith, Option, Some, None, not, ◌+◌}
use Rattle.std.specs.List.{remove}
use Rattle.std.proofs.lemmas.List.Elements.{All-cons, All-head, All-tail, filter-append, filter_passes, All-push}
use Rattle.std.proofs.lemmas.List.{append-nil, map-append, length-append, length-set, get_or_at}
use Rattle.std.proofs.lemmas.Bool.{eqb-true}
use Rattle.std.proofs.lemmas.Bool.Decides.{eqb_tells, nat_tests}
use Rattle.coins.specs.declared.mail.Mail.{Mail}
use Rattle.coins.specs.Limits.{boss_number}
use Rattle.helper_coins.specs.Helpers.{arrive_step}
use Rattle.boss_coins.specs.Bosses.{receive_step}
use Rattle.runs.specs.System.{World, First, mail_at, no_mail, helper_at, on_line, head, sent, Step, Reach, then}
use Rattle.runs.specs.System as system
use Rattle.runs.specs.Promise.{is_give, arrivals}
use Rattle.runs.proofs.Always.{always}
use Rattle.runs.proofs.Queued.{same_line}
use Rattle.runs.proofs.Tables.{both_true}
use Rattle.runs.proofs.Theorems.{promised}
use Rattle.lines.specs.Ends.{slot}
use Rattle.lines.specs.Perfect.{Sent, at_pair, from_to, queued, Perfect}
use Rattle.network.specs.Above.{Crew, Item, outgoing, Call, gives, says, shares, rests, flushes, Take, comes, returns}
use Rattle.network.specs.Promise.{call_gives}
use Rattle.network.proofs.Shuffles.{on_own, none_one, foremost, kept_none}
use Rattle.network.proofs.Posts.{SentBy, give_by, say_by, share_by, rest_by, flush_by, arrive_by, receive_by}

abbrev pub world : Crew → List Mail → World
world x ms = record { boss = x.boss; helpers = x.helpers; post = ms }

abbrev pub mails : List Item → List Mail
mails ps = map (λ (p : Item). p.mail) ps

-- a message goes from place i to place j
abbrev pub on_places : ℕ → ℕ → Mail → Bool
on_places i j m = eqb i (slot m.sender.number) && eqb j (slot m.receiver.number)

-- a number is that of one of n helpers, or the boss's
abbrev pub IsNode : ℕ → ℕ → Type 0
IsNode n k = (k < n) ⊎ (k ≡ boss_number)

abbrev pub FromNode : ℕ → Mail → Type 0
FromNode n m = IsNode n m.sender.number

-- the messages ms, in the order in which they were sent, are those of all queues
pub record Mirrors (a : Perfect Crew Item) (ms : List Mail) : Type 0 where
  pub reached : Reach (world a.above ms)
  pub lanes : (i j : ℕ) → mails (a.queue i j) ≡ filter (on_places i j) ms
  pub senders : All (FromNode (length a.above.helpers)) ms

-- a step of the mirror: whether it is a give of a letter, and how many messages of it come
pub record Moved (a z : Perfect Crew Item) (ms : List Mail) (give : ℕ → Bool) (come : ℕ → ℕ) : Type 0 where
  pub after : List Mail
  pub mirrors : Mirrors z after
  pub step : Step (world a.above ms) (world z.above after)
  pub gives_is : (letter : ℕ) → is_give letter step ≡ give letter
  pub comes_is : (letter : ℕ) → arrivals letter step ≡ come letter

-- what somebody did: rest is left of the messages, and out is sent
record Did (x y : Crew) (ms rest : List Mail) (out : List (Sent Item)) (give : ℕ → Bool) (come : ℕ → ℕ) : Type 0 where
  post : Option Mail
  work : List ℕ
  out_is : out ≡ outgoing post work
  size : length y.helpers ≡ length x.helpers
  sender : ℕ
  node : IsNode (length x.helpers) sender
  by : SentBy sender post
  step : Step (world x ms) (world y (sent post rest))
  gives_is : (letter : ℕ) → is_give letter step ≡ give letter
  comes_is : (letter : ℕ) → arrivals letter step ≡ come letter

-- what is sent goes to the end of its queue, and to no other
sent_lane : (p : Option Mail) (work : List ℕ) (ms : List Mail) (i j : ℕ) →
    filter (on_places i j) (sent p ms) ≡ filter (on_places i j) ms ++ mails (from_to i j (outgoing p work))
sent_lane None work ms i j = sym (append-nil (filter (on_places i j) ms))
sent_lane (Some m) work ms i j = filter-append (on_places i j) ms (m ∷ []) ∙ ap (λ (xs : List Mail). filter (on_places i j) ms ++ xs) (one (on_places i j m))
  where
    one : (b : Bool) → cond b (m ∷ []) [] ≡ mails (cond b (record { mail = m; work = work } ∷ []) [])
    one true = refl
    one false = refl

sent_from : (n k : ℕ) (p : Option Mail) (ms : List Mail) → SentBy k p → IsNode n k → All (FromNode n) ms → All (FromNode n) (sent p ms)
sent_from n k None ms e h all = all
sent_from n k (Some m) ms e h all = All-push (FromNode n) ms m all (rw e h)

moved_by : (a : Perfect Crew Item) (ms rest : List Mail) (q q' : ℕ → ℕ → List Item) (y : Crew) (out : List (Sent Item)) (give : ℕ → Bool) (come : ℕ → ℕ) →
    Mirrors a ms → Did a.above y ms rest out give come → ((i j : ℕ) → mails (q i j) ≡ filter (on_places i j) rest) → All (FromNode (length a.above.helpers)) rest →
    ((i j : ℕ) → q' i j ≡ queued out q i j) → Moved a (record { above = y; queue = q' }) ms give come
moved_by a ms rest q q' y out give come M D lanes from e =
    record {
      after = sent D.post rest;
      mirrors = record {
        reached = then M.reached D.step;
        lanes = λ i j. ap mails (e i j) ∙ map-append (λ (p : Item). p.mail) (q i j) (from_to i j out) ∙
            ap (λ (o : List (Sent Item)). mails (q i j) ++ mails (from_to i j o)) D.out_is ∙
            ap (λ (xs : List Mail). xs ++ mails (from_to i j (outgoing D.post D.work))) (lanes i j) ∙ sym (sent_lane D.post D.work rest i j);
        senders = subst (λ (n : ℕ). All (FromNode n) (sent D.post rest)) (sym D.size) (sent_from (length a.above.helpers) D.sender D.post rest D.by D.node from);
      };
      step = D.step;
      gives_is = D.gives_is;
      comes_is = D.comes_is;
    }

-- a helper of a reached world has its place as its number
pub named : {x : Crew} {ms : List Mail} → Reach (world x ms) → (i : ℕ) → i < length x.helpers → (helper_at x.helpers i).me.number ≡ i
named R i l = ((always R).order.helpers i l).named

named_node : {x : Crew} {ms : List Mail} → Reach (world x ms) → (i : ℕ) → i < length x.helpers → IsNode (length x.helpers) (helper_at x.helpers i).me.number
named_node R i l = inl (omega (arith, named R i l))

-- calls
call_did : {x y : Crew} {out : List (Sent Item)} (c : Call x out y) (ms : List Mail) → Reach (world x ms) → Did x y ms ms out (λ letter. call_gives letter c) (λ _. 0)
call_did (gives x letter to room work l) ms R =
    record {
      post = _;
      work = work;
      out_is = refl;
      size = refl;
      sender = boss_number;
      node = inr refl;
      by = give_by x.boss letter to room;
      step = system.gives (world x ms) letter to room l;
      gives_is = λ _. refl;
      comes_is = λ _. refl;
    }
call_did (says x letter) ms R =
    record {
      post = _;
      work = [];
      out_is = refl;
      size = refl;
      sender = boss_number;
      node = inr refl;
      by = say_by x.boss letter;
      step = system.says (world x ms) letter;
      gives_is = λ _. refl;
      comes_is = λ _. refl;
    }
call_did (shares x i letter to peer boss work l r) ms R =
    record {
      post = _;
      work = work;
      out_is = refl;
      size = length-set x.helpers i _;
      sender = _;
      node = named_node R i l;
      by = share_by (helper_at x.helpers i) letter to peer boss;
      step = system.shares (world x ms) i letter to peer boss l r;
      gives_is = λ _. refl;
      comes_is = λ _. refl;
    }
call_did (rests x i letter boss l) ms R =
    record {
      post = _;
      work = [];
      out_is = refl;
      size = length-set x.helpers i _;
      sender = _;
      node = named_node R i l;
      by = rest_by (helper_at x.helpers i) letter boss;
      step = system.rests (world x ms) i letter boss l;
      gives_is = λ _. refl;
      comes_is = λ _. refl;
    }
call_did (flushes x i boss l) ms R =
    record {
      post = _;
      work = [];
      out_is = refl;
      size = length-set x.helpers i _;
      sender = _;
      node = named_node R i l;
      by = flush_by (helper_at x.helpers i) boss;
      step = system.flushes (world x ms) i boss l;
      gives_is = λ _. refl;
      comes_is = λ _. refl;
    }

pub called_moved : (a : Perfect Crew Item) (ms : List Mail) (q : ℕ → ℕ → List Item) (y : Crew) (out : List (Sent Item)) → Mirrors a ms →
    (c : Call a.above out y) → ((i j : ℕ) → q i j ≡ queued out a.queue i j) → Moved a (record { above = y; queue = q }) ms (λ letter. call_gives letter c) (λ _. 0)
called_moved a ms q y out M c e = moved_by a ms ms a.queue q y out _ _ M (call_did c ms M.reached) M.lanes M.senders e

-- the first message of its line
module _ {X : Type 0} where
  kept_fewer : (p q : X → Bool) → ((x : X) → q x ≡ true → p x ≡ true) → (xs : List X) → filter p xs ≡ [] → filter q xs ≡ []
  kept_fewer p q f [] e = refl
  kept_fewer p q f (x ∷ xs) e = go (p x) refl (q x) refl (λ h. kept_fewer p q f xs h)
    where
      go : (b : Bool) → p x ≡ b → (c : Bool) → q x ≡ c → (filter p xs ≡ [] → filter q xs ≡ []) → cond (q x) (x ∷ filter q xs) (filter q xs) ≡ []
      go true t c u rest = none_one (sym (rw t at e))
      go false t true u rest = let z : false ≡ true = sym t ∙ f x u in absurd (grind arith)
      go false t false u rest = rw u (rest (rw t at e))

  removed_at : (a b : List X) (x : X) → remove (a ++ x ∷ b) (length a) ≡ a ++ b
  removed_at [] b x = refl
  removed_at (y ∷ a) b x = ap (λ zs. y ∷ zs) (removed_at a b x)

head_at : (a b : List Mail) (m : Mail) → filter (on_line m.sender m.receiver) a ≡ [] → head (a ++ m ∷ b) m.sender m.receiver ≡ length a
head_at [] b m e = rw (on_own m)
head_at (x ∷ a) b m e = go (on_line m.sender m.receiver x) refl (λ h. head_at a b m h)
  where
    p : Mail → Bool
    p = on_line m.sender m.receiver

    go : (c : Bool) → on_line m.sender m.receiver x ≡ c → (filter (on_line m.sender m.receiver) a ≡ [] → head (a ++ m ∷ b) m.sender m.receiver ≡ length a) →
        cond (not (on_line m.sender m.receiver x)) (1 + head (a ++ m ∷ b) m.sender m.receiver) 0 ≡ suc (length a)
    go true t rest = none_one (sym (rw t at e))
    go false t rest = let h = rest (rw t at e) in rw t (omega (arith, h))

module _ (s r : ℕ) (m : Mail) (a b : List Mail) (on : on_places s r m ≡ true) (none : filter (on_places s r) a ≡ []) where
  same_places : (x : Mail) → on_line m.sender m.receiver x ≡ true → on_places s r x ≡ true
  same_places x e = let line = same_line m.sender m.receiver x e in rw (← line.0, ← line.1) on

  mail_at_middle : mail_at (a ++ m ∷ b) (length a) ≡ m
  mail_at_middle = get_or_at a m b no_mail (length a) refl

  first : First (a ++ m ∷ b) (length a)
  first =
      record {
        inside = omega (arith, length-append a (m ∷ b));
        foremost = rw mail_at_middle (head_at a b m (kept_fewer (on_places s r) (on_line m.sender m.receiver) same_places a none));
      }

-- places and numbers: a helper's place is its number, and only the boss's place is 256
slot_helper : (n i : ℕ) → i < 256 → eqb i (slot n) ≡ true → n ≡ i
slot_helper n i l e = grind (arith, nat_tests)

slot_boss : (n k : ℕ) → n ≤ 256 → IsNode n k → eqb 256 (slot k) ≡ true → k ≡ boss_number
slot_boss n k l (inl h) e = absurd (let z : 256 ≡ slot k = eqb-true 256 (slot k) e in grind (arith, nat_tests))
slot_boss n k l (inr h) e = h

-- each message is for a node
pub receiver_node : (w : World) → Reach w → (k : ℕ) → k < length w.post → IsNode (length w.helpers) (mail_at w.post k).receiver.number
receiver_node w R k l =
    elim (eqb_tells (mail_at w.post k).receiver.number boss_number) [ inl e ↦ inr e.1 | inr f ↦ inl ((promised w R).addressed k l f.1) ]

-- a message is taken
take_did : {x y : Crew} {s r : ℕ} {p : Item} {out : List (Sent Item)} (t : Take x s r p out y) (a b : List Mail) → Reach (world x (a ++ p.mail ∷ b)) →
    on_places s r p.mail ≡ true → filter (on_places s r) a ≡ [] →
    Did x y (a ++ p.mail ∷ b) (remove (a ++ p.mail ∷ b) (length a)) out (λ _. false) (λ letter. cond (eqb p.mail.letter.number letter) 1 0)
take_did (comes x s i boss m h p l e) a b R on none =
    let at = mail_at_middle s i m.mail a b on none in
    let few = (always R).order.few in
    record {
      post = p;
      work = [];
      out_is = refl;
      size = length-set x.helpers i h;
      sender = _;
      node = named_node R i l;
      by = arrive_by (helper_at x.helpers i) m.mail.letter m.mail.kind boss h p e;
      step = system.comes (world x (a ++ m.mail ∷ b)) (length a) i boss h p (first s i m.mail a b on none)
          (ap (λ (y : Mail). y.receiver.number) at ∙ slot_helper m.mail.receiver.number i (omega arith) (both_true _ _ on).1) l
          (ap (λ (y : Mail). arrive_step (helper_at x.helpers i) y.letter y.kind boss) at ∙ e);
      gives_is = λ _. refl;
      comes_is = λ letter. ap (λ (y : Mail). cond (eqb y.letter.number letter) 1 0) at;
    }
take_did (returns x s room m c p e) a b R on none =
    let at = mail_at_middle s 256 m.mail a b on none in
    let few = (always R).order.few in
    let here = first s 256 m.mail a b on none in
    let node : IsNode (length x.helpers) m.mail.receiver.number = subst (λ (y : Mail). IsNode (length x.helpers) y.receiver.number) at (receiver_node _ R (length a) here.inside) in
    record {
      post = p;
      work = [];
      out_is = refl;
      size = refl;
      sender = boss_number;
      node = inr refl;
      by = receive_by x.boss m.mail.sender m.mail.letter m.mail.kind room c p e;
      step = system.returns (world x (a ++ m.mail ∷ b)) (length a) room c p here
          (ap (λ (y : Mail). y.receiver.number) at ∙ slot_boss (length x.helpers) m.mail.receiver.number few node (both_true _ _ on).1)
          (ap (λ (y : Mail). receive_step x.boss y.sender y.letter y.kind room) at ∙ e);
      gives_is = λ _. refl;
      comes_is = λ letter. ap (λ (y : Mail). cond (eqb y.letter.number letter) 1 0) at;
    }

all_out : {X : Type 0} (P : X → Type 0) (a b : List X) (x : X) → All P (a ++ x ∷ b) → All P (a ++ b)
all_out P [] b x h = All-tail P x b h
all_out P (y ∷ a) b x h = All-cons P y (a ++ b) (All-head P y (a ++ x ∷ b) h) (all_out P a b x (All-tail P y (a ++ x ∷ b) h))

module _ (a : Perfect Crew Item) (q : ℕ → ℕ → List Item) (y : Crew) (s r : ℕ) (p : Item) (ps : List Item) (out : List (Sent Item)) (t : Take a.above s r p out y)
    (e : (i j : ℕ) → q i j ≡ queued out (at_pair s r (λ _. ps) a.queue) i j) where
  came_parts : (front back : List Mail) → Mirrors a (front ++ p.mail ∷ back) → on_places s r p.mail ≡ true → filter (on_places s r) front ≡ [] → filter (on_places s r) back ≡ mails ps →
      Moved a (record { above = y; queue = q }) (front ++ p.mail ∷ back) (λ _. false) (λ letter. cond (eqb p.mail.letter.number letter) 1 0)
  came_parts front back M on none rest =
      moved_by a (front ++ p.mail ∷ back) (remove (front ++ p.mail ∷ back) (length front)) (at_pair s r (λ _. ps) a.queue) q y out _ _ M (take_did t front back M.reached on none)
      (λ i j. lane i j (eqb i s && eqb j r) refl ∙ sym (ap (filter (on_places i j)) gone))
      (rw gone (all_out (FromNode (length a.above.helpers)) front back p.mail M.senders)) e
    where
      gone : remove (front ++ p.mail ∷ back) (length front) ≡ front ++ back
      gone = removed_at front back p.mail

      ends : (eqb s (slot p.mail.sender.number) ≡ true) × (eqb r (slot p.mail.receiver.number) ≡ true)
      ends = both_true (eqb s (slot p.mail.sender.number)) (eqb r (slot p.mail.receiver.number)) on

      from : s ≡ slot p.mail.sender.number
      from = eqb-true s (slot p.mail.sender.number) ends.0

      to : r ≡ slot p.mail.receiver.number
      to = eqb-true r (slot p.mail.receiver.number) ends.1

      lane : (i j : ℕ) (b : Bool) → (eqb i s && eqb j r) ≡ b → mails (at_pair s r (λ _. ps) a.queue i j) ≡ filter (on_places i j) (front ++ back)
      lane i j true h =
          let same = both_true (eqb i s) (eqb j r) h in
          rw (h, eqb-true i s same.0, eqb-true j r same.1) (sym rest ∙ sym (filter-append (on_places s r) front back ∙ rw none))
      lane i j false h =
          let off : on_places i j p.mail ≡ false = rw (← from, ← to) h in
          rw h (M.lanes i j ∙ kept_none (on_places i j) front back p.mail off)

  pub came_moved : (ms : List Mail) → Mirrors a ms → a.queue s r ≡ p ∷ ps → Moved a (record { above = y; queue = q }) ms (λ _. false) (λ letter. cond (eqb p.mail.letter.number letter) 1 0)
  came_moved ms M h =
      let kept : filter (on_places s r) ms ≡ p.mail ∷ mails ps = sym (M.lanes s r) ∙ ap mails h in
      let F = foremost (on_places s r) ms p.mail (mails ps) kept in
      let on : on_places s r p.mail ≡ true = All-head (λ m. on_places s r m ≡ true) p.mail (mails ps) (subst (λ (xs : List Mail). All (λ m. on_places s r m ≡ true) xs) kept (filter_passes (on_places s r) ms)) in
      subst (λ (xs : List Mail). Mirrors a xs → Moved a (record { above = y; queue = q }) xs (λ _. false) (λ letter. cond (eqb p.mail.letter.number letter) 1 0)) (sym F.parts)
      (λ N. came_parts F.front F.back N on F.none F.rest) M

-- A message of a letter on its line: it is the same number of the line until it is taken.
use Rattle.std.proofs.Common.{◌≡◌, ℕ, zero, suc, ◌+◌, ◌-◌, ◌<◌, ◌≤◌, Bool, true, false, cond, ◌&&◌, eqb, ◌⊎◌, List, [], ◌∷◌, ◌++◌, map, length, get_or, All, Contains, filter, sym, refl, ap, ◌∙◌, subst, inl, inr, append_assoc, arith}
use Rattle.std.proofs.lemmas.List.Elements.{All-head, All-contains, All-contains_itself, filter_passes}
use Rattle.std.proofs.lemmas.List.{append-nil, length-append, length-drop, get_or_at}
use Rattle.std.proofs.lemmas.List.Sorted.{Contains-permutation, IsPermutation-sym}
use Rattle.std.proofs.lemmas.Bool.{eq-eqb, eqb-true}
use Rattle.coins.specs.declared.mail.Mail.{Mail}
use Rattle.runs.specs.Letter.{view, is_of, post_of}
use Rattle.runs.proofs.Tables.{both_true}
use Rattle.lines.specs.Ends.{slot}
use Rattle.lines.specs.Perfect.{from_to}
use Rattle.lines.specs.Lossy.{posted, under, take_one, cut, Fine, calls, drifts, takes, answers}
use Rattle.lines.specs.Lossy.{view as perfect}
use Rattle.network.specs.Above.{Item}
use Rattle.network.specs.Bytes.{reading}
use Rattle.network.specs.Network.{Net, NetStep, NetReach, seen}
use Rattle.network.specs.Promise.{arrivals}
use Rattle.network.proofs.Shuffles.{cons_parts, foremost}
use Rattle.network.proofs.Mirrors.{on_places, mails}
use Rattle.network.proofs.Carries.{Took, call_is, take_is, answer_is, posts, net_mirrors}
use Rattle.network.proofs.Alike.{Passing, kept_all, same_messages}
use Rattle.network.proofs.Theorems.{mirror_alike}

-- a message of the letter is under way from place s to place r: the one after number k
pub record Waiting (letter s r k : ℕ) (w : Net) : Type 0 where
  pub front : List Item
  pub item : Item
  pub back : List Item
  pub parts : under (w.line s r) ≡ front ++ item ∷ back
  pub of : is_of letter item.mail ≡ true
  pub number : (w.line s r).taken + length front ≡ k

module _ (letter s r k : ℕ) where
  -- more is sent on the line
  more_waits : (w v : Net) (more : List Item) → Waiting letter s r k w → under (v.line s r) ≡ under (w.line s r) ++ more → (v.line s r).taken ≡ (w.line s r).taken → Waiting letter s r k v
  more_waits w v more W e t =
      record {
        front = W.front;
        item = W.item;
        back = W.back ++ more;
        parts = e ∙ ap (λ (l : List Item). l ++ more) W.parts ∙ append_assoc W.front (W.item ∷ W.back) more;
        of = W.of;
        number = omega (arith, t, W.number);
      }

  -- the first of the line is taken
  first_waits : (w v : Net) (p : Item) (ps more : List Item) → Waiting letter s r k w → under (w.line s r) ≡ p ∷ ps → under (v.line s r) ≡ ps ++ more → (v.line s r).taken ≡ suc (w.line s r).taken →
      (is_of letter p.mail ≡ true) ⊎ Waiting letter s r k v
  first_waits w v p ps more W e f t = go W.front (sym e ∙ W.parts) W.number
    where
      go : (front : List Item) → p ∷ ps ≡ front ++ W.item ∷ W.back → (w.line s r).taken + length front ≡ k → (is_of letter p.mail ≡ true) ⊎ Waiting letter s r k v
      go [] h n = inl (ap (λ (x : Item). is_of letter x.mail) (cons_parts p W.item ps W.back h).0 ∙ W.of)
      go (x ∷ front) h n =
          inr (record {
            front = front;
            item = W.item;
            back = W.back ++ more;
            parts = f ∙ ap (λ (l : List Item). l ++ more) (cons_parts p x ps (front ++ W.item ∷ W.back) h).1 ∙ append_assoc front (W.item ∷ W.back) more;
            of = W.of;
            number = omega (arith, t, n);
          })

  -- it is taken, or waits on
  pub waits_on : {w v : Net} (t : NetStep w v) → Fine reading w → Waiting letter s r k w → (arrivals letter t ≡ 1) ⊎ Waiting letter s r k v
  waits_on {v = v} (calls w out y c) I W = inr (more_waits w v (from_to s r out) W (call_is w I out y s r) refl)
  waits_on {v = v} (drifts w net h) I W = inr (more_waits w v [] W (sym (append-nil (under (w.line s r)))) refl)
  waits_on {v = v} (takes w f i j n p out y h e m t) I W = go (eqb s i && eqb r j) refl
    where
      T : Took i j p out (perfect w) (perfect v)
      T = take_is w I f i j n p out y h e m

      one : (is_of letter p.mail ≡ true) ⊎ Waiting letter s r k v → (◌≡◌ {A = ℕ} (cond (eqb p.mail.letter.number letter) 1 0) 1) ⊎ Waiting letter s r k v
      one (inl q) = inl (ap (λ (b : Bool). cond b 1 0) q)
      one (inr V) = inr V

      go : (b : Bool) → (eqb s i && eqb r j) ≡ b → (◌≡◌ {A = ℕ} (cond (eqb p.mail.letter.number letter) 1 0) 1) ⊎ Waiting letter s r k v
      go true u =
          let same = both_true (eqb s i) (eqb r j) u in
          one (first_waits w v p T.behind (from_to s r out) W (rw (eqb-true s i same.0, eqb-true r j same.1) T.first)
          (T.queues s r ∙ ap (λ (b : Bool). cond b T.behind (under (w.line s r)) ++ from_to s r out) u)
          (ap (λ (b : Bool). (cond b (take_one (w.line s r)) (w.line s r)).taken) u))
      go false u =
          inr (more_waits w v (from_to s r out) W
          (T.queues s r ∙ ap (λ (b : Bool). cond b T.behind (under (w.line s r)) ++ from_to s r out) u)
          (ap (λ (b : Bool). (cond b (take_one (w.line s r)) (w.line s r)).taken) u))
  waits_on {v = v} (answers w f i j n h e) I W = inr (more_waits w v [] W (answer_is w I f i j n h e s r ∙ sym (append-nil (under (w.line s r)))) (same_taken (eqb s i && eqb r j)))
    where
      same_taken : (b : Bool) → (cond b (cut n (w.line s r)) (w.line s r)).taken ≡ (w.line s r).taken
      same_taken true = refl
      same_taken false = refl

  -- it is not taken before all that was posted is
  pub posted_above : (w : Net) → Fine reading w → Waiting letter s r k w → k < posted (w.line s r)
  posted_above w I W =
      omega (arith, W.number, (I.lines s r).low, (I.lines s r).high, length-drop ((w.line s r).taken - (w.line s r).answered) (w.line s r).waiting, ap length W.parts, length-append W.front (W.item ∷ W.back))

  pub not_above : (w : Net) → Waiting letter s r k w → (w.line s r).taken ≤ k
  not_above w W = omega (arith, W.number)

-- an element of a list stands between those before and those behind it
module _ {X Y : Type 0} (f : X → Y) where
  record Midst (xs : List X) (y : Y) : Type 0 where
    front : List X
    one : X
    back : List X
    parts : xs ≡ front ++ one ∷ back
    same : f one ≡ y

  midst : (xs : List X) (y : Y) (k : ℕ) → k < length (map f xs) → get_or (map f xs) k y ≡ y → Midst xs y
  midst [] y k l e = absurd (omega arith)
  midst (x ∷ xs) y zero l e = record { front = []; one = x; back = xs; parts = refl; same = e }
  midst (x ∷ xs) y (suc k) l e =
      let M = midst xs y k (omega arith) e in
      record { front = x ∷ M.front; one = M.one; back = M.back; parts = ap (λ (l : List X). x ∷ l) M.parts; same = M.same }

on_places_own : (m : Mail) → on_places (slot m.sender.number) (slot m.receiver.number) m ≡ true
on_places_own m = rw (eq-eqb (slot m.sender.number) (slot m.sender.number) refl, eq-eqb (slot m.receiver.number) (slot m.receiver.number) refl)

-- a message that is seen waits on its line
pub record Found (letter : ℕ) (w : Net) : Type 0 where
  pub s : ℕ
  pub r : ℕ
  pub k : ℕ
  pub waiting : Waiting letter s r k w

on_line : (w : Net) (letter i j : ℕ) (m : Mail) → is_of letter m ≡ true → Contains (mails (under (w.line i j))) m → Found letter w
on_line w letter i j m of line = found_at (midst (λ (p : Item). p.mail) (under (w.line i j)) m line.0 line.1 line.2)
  where
    found_at : Midst (λ (p : Item). p.mail) (under (w.line i j)) m → Found letter w
    found_at M =
        record { s = i; r = j; k = (w.line i j).taken + length M.front; waiting = record { front = M.front; item = M.one; back = M.back; parts = M.parts; of = ap (is_of letter) M.same ∙ of; number = refl } }

pub found : {w : Net} → NetReach w → (letter : ℕ) (m : Mail) (ms : List Mail) → (view letter (seen w)).post ≡ m ∷ ms → Found letter w
unfolding post_of
found {w} R letter m ms e =
    let F = foremost (is_of letter) (seen w).post m ms e in
    let of : is_of letter m ≡ true = All-head (λ x. is_of letter x ≡ true) m ms (subst (λ (l : List Mail). All (λ x. is_of letter x ≡ true) l) e (filter_passes (is_of letter) (seen w).post)) in
    let there : Contains (seen w).post m = subst (λ (l : List Mail). Contains l m) (sym F.parts) (length F.front, omega (arith, length-append F.front (m ∷ F.back)), get_or_at F.front m F.back m (length F.front) refl) in
    let i : ℕ = slot m.sender.number in
    let j : ℕ = slot m.receiver.number in
    let sent : Contains (posts R) m = Contains-permutation (seen w).post (posts R) m (IsPermutation-sym (posts R) (seen w).post (same_messages _ (seen w) (mirror_alike R))) there in
    let lane : Contains (filter (on_places i j) (posts R)) m =
    All-contains (Passing (on_places i j) (Contains (filter (on_places i j) (posts R)))) (posts R) m (kept_all (on_places i j) (Contains (filter (on_places i j) (posts R))) (posts R) (All-contains_itself (filter (on_places i j) (posts R)))) sent (on_places_own m) in
    let line : Contains (mails (under (w.line i j))) m = subst (λ (l : List Mail). Contains l m) (sym ((net_mirrors R).lanes i j)) lane in
    on_line w letter i j m of line

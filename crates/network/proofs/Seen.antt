-- What is seen of a network has the same queues as its mirror.
use Rattle.std.proofs.Common.{◌≡◌, ℕ, zero, suc, ◌<◌, ◌≤◌, Bool, true, false, cond, ◌&&◌, eqb, ◌⊎◌, List, [], ◌∷◌, ◌++◌, length, All, filter, sym, refl, ap, ◌∙◌, subst, inl, inr, arith}
use Rattle.std.specs.List.{flat_map}
use Rattle.std.proofs.lemmas.List.Elements.{All-head, filter-append, filter_passes, All-filter, All-get_or, All-from_get_or}
use Rattle.std.proofs.lemmas.List.{append-nil, append_assoc}
use Rattle.std.proofs.lemmas.Bool.{eq-eqb}
use Rattle.std.proofs.lemmas.Bool.Decides.{eqb_tells, nat_tests}
use Rattle.coins.specs.declared.ids.NodeId.{NodeId}
use Rattle.coins.specs.declared.mail.Mail.{Mail}
use Rattle.runs.specs.System.{no_mail, on_line}
use Rattle.runs.specs.Lines.{queue}
use Rattle.runs.proofs.Always.{always}
use Rattle.runs.proofs.Queued.{same_line}
use Rattle.lines.specs.Ends.{slot}
use Rattle.lines.specs.Lossy.{Line}
use Rattle.lines.specs.Lossy.{view as perfect}
use Rattle.network.specs.Above.{Item}
use Rattle.network.specs.Network.{Net, below, places, mail_on, all_mail, seen}
use Rattle.network.specs.Promise.{Alike}
use Rattle.network.proofs.Mirrors.{world, on_places, IsNode, FromNode, Mirrors, receiver_node}

-- lists joined
module _ {X A : Type 0} where
  joined_append : (f : X → List A) (xs ys : List X) → flat_map f (xs ++ ys) ≡ flat_map f xs ++ flat_map f ys
  joined_append f [] ys = refl
  joined_append f (x ∷ xs) ys = ap (λ zs. f x ++ zs) (joined_append f xs ys) ∙ sym (append_assoc (f x) (flat_map f xs) (flat_map f ys))

  joined_same : (f g : X → List A) → ((x : X) → f x ≡ g x) → (xs : List X) → flat_map f xs ≡ flat_map g xs
  joined_same f g e [] = refl
  joined_same f g e (x ∷ xs) = ap (λ ys. ys ++ flat_map f xs) (e x) ∙ ap (λ ys. g x ++ ys) (joined_same f g e xs)

  joined_none : (f : X → List A) → ((x : X) → f x ≡ []) → (xs : List X) → flat_map f xs ≡ []
  joined_none f e [] = refl
  joined_none f e (x ∷ xs) = rw (e x) (joined_none f e xs)

  kept_joined : (p : A → Bool) (f : X → List A) (xs : List X) → filter p (flat_map f xs) ≡ flat_map (λ x. filter p (f x)) xs
  kept_joined p f [] = refl
  kept_joined p f (x ∷ xs) = filter-append p (f x) (flat_map f xs) ∙ ap (λ ys. filter p (f x) ++ ys) (kept_joined p f xs)

-- what is kept of what is kept
module _ {X : Type 0} (p q : X → Bool) where
  kept_kept : ((x : X) → q x ≡ true → p x ≡ true) → (xs : List X) → filter q (filter p xs) ≡ filter q xs
  kept_kept f [] = refl
  kept_kept f (x ∷ xs) = go (p x) refl (q x) refl (kept_kept f xs)
    where
      go : (b : Bool) → p x ≡ b → (c : Bool) → q x ≡ c → filter q (filter p xs) ≡ filter q xs → filter q (cond (p x) (x ∷ filter p xs) (filter p xs)) ≡ cond (q x) (x ∷ filter q xs) (filter q xs)
      go true t true u rest = rw (t, u) (ap (λ zs. x ∷ zs) rest)
      go true t false u rest = rw (t, u) rest
      go false t true u rest = let z : false ≡ true = sym t ∙ f x u in absurd (grind arith)
      go false t false u rest = rw (t, u) rest

  kept_off : ((x : X) → q x ≡ true → p x ≡ false) → (xs : List X) → filter q (filter p xs) ≡ []
  kept_off f [] = refl
  kept_off f (x ∷ xs) = go (p x) refl (q x) refl (kept_off f xs)
    where
      go : (b : Bool) → p x ≡ b → (c : Bool) → q x ≡ c → filter q (filter p xs) ≡ [] → filter q (cond (p x) (x ∷ filter p xs) (filter p xs)) ≡ []
      go true t true u rest = let z : true ≡ false = sym t ∙ f x u in absurd (grind arith)
      go true t false u rest = rw (t, u) rest
      go false t c u rest = rw t rest

-- of lists at places, all empty but the one at a
module _ {A : Type 0} (a : ℕ) (l : List A) where
  abbrev only : ℕ → List A
  only x = cond (eqb a x) l []

  below_miss : (n : ℕ) → n ≤ a → flat_map only (below n) ≡ []
  unfolding below
  below_miss zero le = refl
  below_miss (suc n) le =
      let f : eqb a n ≡ false = grind (arith, nat_tests) in
      joined_append only (below n) (n ∷ []) ∙ rw (below_miss n (omega arith), f)

  below_hit : (n : ℕ) → a < n → flat_map only (below n) ≡ l
  unfolding below
  below_hit zero lt = absurd (omega arith)
  below_hit (suc n) lt =
      elim (eqb_tells a n) [
        | inl s ↦ joined_append only (below n) (n ∷ []) ∙ rw (below_miss n (omega (arith, s.1)), s.0) (append-nil l)
        | inr s ↦ let ne = s.1 in joined_append only (below n) (n ∷ []) ∙ rw (below_hit n (omega arith), s.0) (append-nil l)
      ]

  hit : (n : ℕ) → n ≤ 256 → (a < n) ⊎ (a ≡ 256) → flat_map only (places n) ≡ l
  unfolding places
  hit n le (inl lt) =
      let f : eqb a 256 ≡ false = grind (arith, nat_tests) in
      joined_append only (below n) (256 ∷ []) ∙ rw (below_hit n lt, f) (append-nil l)
  hit n le (inr e) = joined_append only (below n) (256 ∷ []) ∙ rw (below_miss n (omega arith), eq-eqb a 256 e) (append-nil l)

-- the same for pairs of places
hit_pair : {A : Type 0} (a b : ℕ) (l : List A) (n : ℕ) → n ≤ 256 → (a < n) ⊎ (a ≡ 256) → (b < n) ⊎ (b ≡ 256) →
    flat_map (λ i. flat_map (λ j. cond (eqb a i && eqb b j) l []) (places n)) (places n) ≡ l
hit_pair a b l n le ha hb =
    joined_same (λ i. flat_map (λ j. cond (eqb a i && eqb b j) l []) (places n)) (only a l) (λ i. row i (eqb a i) refl) (places n) ∙ hit a l n le ha
  where
    row : (i : ℕ) (c : Bool) → eqb a i ≡ c → flat_map (λ j. cond (eqb a i && eqb b j) l []) (places n) ≡ cond (eqb a i) l []
    row i true e = rw e (hit b l n le hb)
    row i false e = rw e (joined_none (λ j. []) (λ _. refl) (places n))

slot_place : (n k : ℕ) → n ≤ 256 → IsNode n k → (slot k < n) ⊎ (slot k ≡ 256)
slot_place n k le (inl lt) = inl (grind (arith, nat_tests))
slot_place n k le (inr e) = inr (grind (arith, nat_tests))

-- a message between nodes
abbrev Inside : ℕ → Mail → Type 0
Inside n m = FromNode n m × IsNode n m.receiver.number

module _ (ms : List Mail) (n : ℕ) (few : n ≤ 256) (inside : All (Inside n) ms) (s r : NodeId) where
  -- a queue, out of the messages between two places
  part : (i j : ℕ) → filter (on_line s r) (filter (on_places i j) ms) ≡ cond (eqb (slot s.number) i && eqb (slot r.number) j) (filter (on_line s r) ms) []
  part i j = go (eqb (slot s.number) i && eqb (slot r.number) j) refl
    where
      go : (c : Bool) → (eqb (slot s.number) i && eqb (slot r.number) j) ≡ c → filter (on_line s r) (filter (on_places i j) ms) ≡ cond (eqb (slot s.number) i && eqb (slot r.number) j) (filter (on_line s r) ms) []
      go true t = rw t (kept_kept (on_places i j) (on_line s r) (λ x e. let line = same_line s r x e in rw (← line.0, ← line.1) (grind (arith, nat_tests))) ms)
      go false t = rw t (kept_off (on_places i j) (on_line s r) (λ x e. let line = same_line s r x e in rw (← line.0, ← line.1) (grind (arith, nat_tests))) ms)

  abbrev rows : List Mail → List Mail
  rows l = flat_map (λ i. flat_map (λ j. cond (eqb (slot s.number) i && eqb (slot r.number) j) l []) (places n)) (places n)

  whole : rows (filter (on_line s r) ms) ≡ filter (on_line s r) ms
  whole = go (filter (on_line s r) ms) refl
    where
      go : (l : List Mail) → filter (on_line s r) ms ≡ l → rows (filter (on_line s r) ms) ≡ filter (on_line s r) ms
      go [] e = ap rows e ∙ joined_none (λ i. flat_map (λ j. cond (eqb (slot s.number) i && eqb (slot r.number) j) [] []) (places n))
          (λ i. joined_none (λ j. cond (eqb (slot s.number) i && eqb (slot r.number) j) [] []) (λ j. nothing (eqb (slot s.number) i && eqb (slot r.number) j)) (places n)) (places n) ∙ sym e
        where
          nothing : (c : Bool) → cond {A = List Mail} c [] [] ≡ []
          nothing true = refl
          nothing false = refl
      go (m ∷ l) e =
          let on : on_line s r m ≡ true = All-head (λ x. on_line s r x ≡ true) m l (subst (λ (xs : List Mail). All (λ x. on_line s r x ≡ true) xs) e (filter_passes (on_line s r) ms)) in
          let nodes : Inside n m = All-head (Inside n) m l (subst (λ (xs : List Mail). All (Inside n) xs) e (All-filter (on_line s r) (Inside n) ms inside)) in
          let line = same_line s r m on in
          hit_pair (slot s.number) (slot r.number) (filter (on_line s r) ms) n few
          (slot_place n s.number few (rw line.0 nodes.0)) (slot_place n r.number few (rw line.1 nodes.1))

-- all messages, line by line, have the queues that they have in the order in which they were sent
all_queue : (line : ℕ → ℕ → Line Item) (ms : List Mail) (n : ℕ) → n ≤ 256 → All (Inside n) ms → ((i j : ℕ) → mail_on (line i j) ≡ filter (on_places i j) ms) →
    (s r : NodeId) → queue s r (all_mail n line) ≡ queue s r ms
unfolding queue all_mail
all_queue line ms n few inside lanes s r =
    kept_joined (on_line s r) (λ i. flat_map (λ j. mail_on (line i j)) (places n)) (places n) ∙
    joined_same (λ i. filter (on_line s r) (flat_map (λ j. mail_on (line i j)) (places n))) (λ i. flat_map (λ j. cond (eqb (slot s.number) i && eqb (slot r.number) j) (filter (on_line s r) ms) []) (places n))
    (λ i. kept_joined (on_line s r) (λ j. mail_on (line i j)) (places n) ∙
    joined_same (λ j. filter (on_line s r) (mail_on (line i j))) (λ j. cond (eqb (slot s.number) i && eqb (slot r.number) j) (filter (on_line s r) ms) [])
    (λ j. ap (filter (on_line s r)) (lanes i j) ∙ part ms n few inside s r i j) (places n)) (places n) ∙
    whole ms n few inside s r

-- what is seen is alike to the mirror
pub alike : (w : Net) (ms : List Mail) → Mirrors (perfect w) ms → Alike (world w.above ms) (seen w)
alike w ms M =
    let n : ℕ = length w.above.helpers in
    let inside : All (Inside n) ms = All-from_get_or (Inside n) ms no_mail (λ k l. (All-get_or (FromNode n) ms k no_mail l M.senders, receiver_node (world w.above ms) M.reached k l)) in
    record { boss = refl; helpers = refl; queues = λ s r. sym (all_queue w.line ms n (always M.reached).order.few inside M.lanes s r) }

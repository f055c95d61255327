-- The first of a list that passes a test, and lists whose queues are the same.
use Rattle.std.proofs.Common.{◌≡◌, Bool, true, false, cond, List, [], ◌∷◌, ◌++◌, length, filter, sym, refl, ap, ◌∙◌, subst, arith}
use Rattle.std.specs.List.Sorted.{IsPermutation}
use Rattle.std.proofs.lemmas.List.Elements.{filter-append}
use Rattle.std.proofs.lemmas.List.Sorted.{IsPermutation-refl, IsPermutation-cons, IsPermutation-swap, IsPermutation-trans}
use Rattle.std.proofs.lemmas.Bool.{eq-eqb}
use Rattle.coins.specs.declared.ids.NodeId.{NodeId}
use Rattle.coins.specs.declared.mail.Mail.{Mail}
use Rattle.runs.specs.System.{on_line}
use Rattle.runs.specs.Lines.{queue}
use Rattle.runs.proofs.Queued.{same_line}

module _ {X : Type 0} where
  pub none_one : {A : Type 0} {x : X} {xs : List X} → [] ≡ x ∷ xs → A
  none_one {A} {x} {xs} e = absurd (omega (arith, ap length e))

  pub cons_parts : (x y : X) (xs ys : List X) → x ∷ xs ≡ y ∷ ys → (x ≡ y) × (xs ≡ ys)
  cons_parts x y xs ys e = (cc, cc)

  -- y is the first that passes: none before it does, and those behind it that do are ys
  pub record Foremost (p : X → Bool) (xs : List X) (y : X) (ys : List X) : Type 0 where
    pub front : List X
    pub back : List X
    pub parts : xs ≡ front ++ y ∷ back
    pub none : filter p front ≡ []
    pub rest : filter p back ≡ ys

  pub foremost : (p : X → Bool) (xs : List X) (y : X) (ys : List X) → filter p xs ≡ y ∷ ys → Foremost p xs y ys
  foremost p [] y ys e = none_one e
  foremost p (x ∷ xs) y ys e = go (p x) refl (λ h. foremost p xs y ys h)
    where
      go : (b : Bool) → p x ≡ b → (filter p xs ≡ y ∷ ys → Foremost p xs y ys) → Foremost p (x ∷ xs) y ys
      go true t rest =
          let same = cons_parts x y (filter p xs) ys (rw t at e) in
          record { front = []; back = xs; parts = ap (λ z. z ∷ xs) same.0; none = refl; rest = same.1 }
      go false f rest =
          let r = rest (rw f at e) in
          record { front = x ∷ r.front; back = r.back; parts = ap (λ zs. x ∷ zs) r.parts; none = rw f r.none; rest = r.rest }

  -- what a list keeps, with one element in its midst
  pub kept_mid : (p : X → Bool) (a b : List X) (x : X) → filter p (a ++ x ∷ b) ≡ filter p a ++ cond (p x) (x ∷ filter p b) (filter p b)
  kept_mid p a b x = filter-append p a (x ∷ b)

  pub kept_none : (p : X → Bool) (a b : List X) (x : X) → p x ≡ false → filter p (a ++ x ∷ b) ≡ filter p (a ++ b)
  kept_none p a b x e = kept_mid p a b x ∙ rw e (sym (filter-append p a b))

  shuffled_mid : (a b : List X) (x : X) → IsPermutation (x ∷ (a ++ b)) (a ++ x ∷ b)
  shuffled_mid [] b x = IsPermutation-refl (x ∷ b)
  shuffled_mid (y ∷ a) b x =
      IsPermutation-trans (x ∷ y ∷ (a ++ b)) (y ∷ x ∷ (a ++ b)) (y ∷ (a ++ x ∷ b))
      (IsPermutation-swap (x ∷ y ∷ (a ++ b)) (y ∷ x ∷ (a ++ b)) 0 1 (omega arith) (omega arith) refl)
      (IsPermutation-cons y (x ∷ (a ++ b)) (a ++ x ∷ b) (shuffled_mid a b x))

abbrev pub SameQueues : List Mail → List Mail → Type 0
SameQueues xs ys = (s r : NodeId) → queue s r xs ≡ queue s r ys

pub on_own : (m : Mail) → on_line m.sender m.receiver m ≡ true
on_own m = rw (eq-eqb m.sender.number m.sender.number refl, eq-eqb m.receiver.number m.receiver.number refl)

-- a message is the first of its queue
queue_own : (m : Mail) (ms : List Mail) → queue m.sender m.receiver (m ∷ ms) ≡ m ∷ queue m.sender m.receiver ms
unfolding queue
queue_own m ms = rw (on_own m)

-- without the first of a queue
without_first : (x : Mail) (xs front back : List Mail) → SameQueues (x ∷ xs) (front ++ x ∷ back) → queue x.sender x.receiver front ≡ [] → SameQueues xs (front ++ back)
unfolding queue
without_first x xs front back e none s r = go (on_line s r x) refl
  where
    go : (b : Bool) → on_line s r x ≡ b → filter (on_line s r) xs ≡ filter (on_line s r) (front ++ back)
    go true t =
        let line = same_line s r x t in
        let clear : filter (on_line s r) front ≡ [] = rw (line.0, line.1) none in
        let h : x ∷ filter (on_line s r) xs ≡ filter (on_line s r) front ++ x ∷ filter (on_line s r) back = rw t at (e s r ∙ kept_mid (on_line s r) front back x) in
        let h2 : x ∷ filter (on_line s r) xs ≡ x ∷ filter (on_line s r) back = rw clear at h in
        (cons_parts x x _ _ h2).1 ∙ sym (filter-append (on_line s r) front back ∙ rw clear)
    go false f = let h : filter (on_line s r) xs ≡ filter (on_line s r) (front ++ x ∷ back) = rw f at (e s r) in h ∙ kept_none (on_line s r) front back x f

-- lists with the same queues have the same messages
pub same_shuffled : (xs ys : List Mail) → SameQueues xs ys → IsPermutation xs ys
unfolding queue
same_shuffled [] [] e = IsPermutation-refl []
same_shuffled [] (y ∷ ys) e = none_one (e y.sender y.receiver ∙ queue_own y ys)
same_shuffled (x ∷ xs) ys e =
    let f : Foremost (on_line x.sender x.receiver) ys x (queue x.sender x.receiver xs) = foremost (on_line x.sender x.receiver) ys x (queue x.sender x.receiver xs) (sym (e x.sender x.receiver) ∙ queue_own x xs) in
    let e2 : SameQueues (x ∷ xs) (f.front ++ x ∷ f.back) = subst (λ (zs : List Mail). SameQueues (x ∷ xs) zs) f.parts e in
    subst (λ (zs : List Mail). IsPermutation (x ∷ xs) zs) (sym f.parts)
    (IsPermutation-trans (x ∷ xs) (x ∷ (f.front ++ f.back)) (f.front ++ x ∷ f.back)
    (IsPermutation-cons x xs (f.front ++ f.back) (same_shuffled xs (f.front ++ f.back) (without_first x xs f.front f.back e2 f.none)))
    (shuffled_mid f.front f.back x))

-- A step as each letter sees it: a move of the letter that it is about, and nothing for the others.
use Rattle.std.proofs.Common.{◌≡◌, ℕ, ◌+◌, ◌/◌, ◌<◌, ◌≤◌, Bool, true, false, ◌⊎◌, List, [], ◌∷◌, ◌++◌, length, set, All, sym, refl, ap, ◌∙◌, subst, inl, inr, arith}
use Rattle.std.proofs.lemmas.List.{length-set, get_or-set_same, get_or-set_other}
use Rattle.std.proofs.lemmas.Bool.Decides.{eqb_tells}
use Rattle.coins.specs.declared.mail.Kind.TheVariants.{Work, More, Back, NoMore, Ask}
use Rattle.coins.specs.declared.mail.Mail.{Mail}
use Rattle.helper_coins.specs.declared.helper.Helper.{Helper}
use Rattle.helper_coins.specs.declared.holding.Holding.{Holding}
use Rattle.boss_coins.specs.declared.boss.Boss.{Boss}
use Rattle.helper_coins.specs.Holdings.{idle, took, kept, waiting, answered, waits}
use Rattle.runs.specs.System.{no_helper, World, helper_at}
use Rattle.runs.specs.Letter.{View, view, holdings_of, post_of, holding_at}
use Rattle.runs.specs.Moves.{ToHelper, ToBoss, now_has, Move, takes, shares, asks, rests, flushes, keeps, declines, hears, is_giving, coming}
use Rattle.runs.specs.Promise.{Untouched}
use Rattle.runs.proofs.Holders.{Changed}
use Rattle.runs.proofs.Holders as holder
use Rattle.runs.proofs.Books.{Booked}
use Rattle.runs.proofs.Books as book
use Rattle.runs.proofs.Views.{held_set, held_same, view_is}

abbrev pub Numbered : List Mail → Type 0
Numbered ms = All (λ m. 1 ≤ m.letter.number) ms

-- A world in order: its tables are, and each message is of a letter.
pub record Order (w : World) : Type 0 where
  pub few : length w.helpers ≤ 256
  pub boss : book.Tidy w.boss
  pub helpers : (i : ℕ) → i < length w.helpers → holder.Tidy i (helper_at w.helpers i)
  pub numbered : Numbered w.post

-- a move, with whether it is a give and how many messages come by it
pub record Turn (give : Bool) (come : ℕ) (v u : View) : Type 0 where
  pub move : Move v u
  pub giving_is : is_giving move ≡ give
  pub coming_is : coming move ≡ come

-- a number may be passed over
abbrev pub Passed : View → View → Type 0
Passed v u = (u.done ≡ v.done) ⊎ ((v.live ≡ false) × (u.done ≡ true))

-- a step that is about one letter
pub record Did (letter : ℕ) (give : Bool) (come : ℕ) (w v : World) : Type 0 where
  pub order : Order v
  pub own : 1 ≤ letter → Turn give come (view letter w) (view letter v) ⊎ ((view letter v ≡ view letter w) × (come ≡ 0))
  pub others : (n : ℕ) → 1 ≤ n → (n ≡ letter → ⊥) → Untouched (view n w) (view n v) × Passed (view n w) (view n v)

-- nothing happened
pub nothing_did : (n : ℕ) (give : Bool) (w : World) → Order w → Did n give 0 w w
nothing_did n give w O =
    record { order = O; own = λ _. inr (refl, refl); others = λ m p ne. (record { live = refl; given = refl; back = refl; holdings = refl; post = refl }, inl refl) }

module _ (w : World) (O : Order w) where
  -- a helper's table and the messages have come to these
  pub set_order : (i : ℕ) (g : Helper) (ms : List Mail) → i < length w.helpers → holder.Tidy i g → Numbered ms → Order (record { boss = w.boss; helpers = set w.helpers i g; post = ms })
  set_order i g ms lt T N =
      record {
        few = omega (arith, length-set w.helpers i g, O.few);
        boss = O.boss;
        helpers = λ j lj. elim (eqb_tells j i) [
          | inl s ↦ subst (λ (k : ℕ). holder.Tidy k (helper_at (set w.helpers i g) k)) (sym s.1) (subst (holder.Tidy i) (sym (get_or-set_same w.helpers i g no_helper lt)) T)
          | inr s ↦ subst (holder.Tidy j) (sym (get_or-set_other w.helpers i j g no_helper s.1)) (O.helpers j (omega (arith, length-set w.helpers i g)))
        ];
        numbered = N;
      }

  -- a helper's state of a letter has come to x, and the letter's messages to qs
  pub helper_did_moves : (i n come : ℕ) (x : Holding) (g : Helper) (ps qs : List Mail) → i < length w.helpers → 1 ≤ n → Changed i n x (helper_at w.helpers i) g →
      post_of n ps ≡ qs → ((m : ℕ) → 1 ≤ m → (m ≡ n → ⊥) → post_of m ps ≡ post_of m w.post) → Numbered ps →
      Turn false come (view n w) (now_has (view n w) i x qs) → Did n false come w (record { boss = w.boss; helpers = set w.helpers i g; post = ps })
  helper_did_moves i n come x g ps qs lt pos C own other N t =
      record {
        order = set_order i g ps lt C.tidy N;
        own = λ _. inl (subst (Turn false come (view n w)) (sym (view_is (view n w) (holdings_of n (set w.helpers i g)) (set (holdings_of n w.helpers) i x) (post_of n ps) qs (held_set n w.helpers i g ∙ ap (λ (y : Holding). set (holdings_of n w.helpers) i y) C.here) own)) t);
        others = λ m p ne. (record { live = refl; given = refl; back = refl; holdings = held_same m w.helpers i g lt (C.others m p ne); post = other m p ne }, inl refl);
      }

  -- the boss's account of a letter has come to this
  pub boss_did_moves : (n come given back : ℕ) (give live done : Bool) (c : Boss) (ps qs : List Mail) → 1 ≤ n → Booked n live done given back w.boss c →
      post_of n ps ≡ qs → ((m : ℕ) → 1 ≤ m → (m ≡ n → ⊥) → post_of m ps ≡ post_of m w.post) → Numbered ps →
      Turn give come (view n w) (record { live = live; done = done; given = given; back = back; holdings = holdings_of n w.helpers; post = qs }) →
      Did n give come w (record { boss = c; helpers = w.helpers; post = ps })
  boss_did_moves n come given back give live done c ps qs pos B own other N t =
      let l = B.live_is in
      let d = B.done_is in
      let g = B.given_is in
      let k = B.back_is in
      record {
        order = record { few = O.few; boss = B.tidy; helpers = O.helpers; numbered = N };
        own = λ _. inl (subst (Turn give come (view n w)) (cc) t);
        others = λ m p ne. (record { live = B.live_same m p ne; given = B.given_same m p ne; back = B.back_same m p ne; holdings = refl; post = other m p ne }, B.done_same m p ne);
      }

-- The moves of a helper whose state is x.
module _ (v : View) (m : Mail) (i : ℕ) (x : Holding) (e : holding_at v.holdings i ≡ x) where
  pub turn_shares : i < length v.holdings → x.working ≡ true → 2 ≤ x.coins → ToHelper v m (Work (x.coins / 2)) → Turn false 0 v (now_has v i (kept x) (v.post ++ m ∷ []))
  turn_shares l =
      subst (λ (y : Holding). y.working ≡ true → 2 ≤ y.coins → ToHelper v m (Work (y.coins / 2)) → Turn false 0 v (now_has v i (kept y) (v.post ++ m ∷ []))) e
      (λ a b c. record { move = shares v m i l a b c; giving_is = refl; coming_is = refl })

  pub turn_asks : x.working ≡ true → ToBoss v i m Ask → Turn false 0 v (now_has v i (waiting x) (v.post ++ m ∷ []))
  turn_asks =
      subst (λ (y : Holding). y.working ≡ true → ToBoss v i m Ask → Turn false 0 v (now_has v i (waiting y) (v.post ++ m ∷ []))) e
      (λ a b. record { move = asks v m i a b; giving_is = refl; coming_is = refl })

  pub turn_rests : x.working ≡ true → ToBoss v i m (Back x.coins) → Turn false 0 v (now_has v i idle (v.post ++ m ∷ []))
  turn_rests =
      subst (λ (y : Holding). y.working ≡ true → ToBoss v i m (Back y.coins) → Turn false 0 v (now_has v i idle (v.post ++ m ∷ []))) e
      (λ a b. record { move = rests v m i a b; giving_is = refl; coming_is = refl })

  pub turn_flushes : waits x ≡ true → ToBoss v i m (Back x.coins) → Turn false 0 v (now_has v i idle (v.post ++ m ∷ []))
  turn_flushes =
      subst (λ (y : Holding). waits y ≡ true → ToBoss v i m (Back y.coins) → Turn false 0 v (now_has v i idle (v.post ++ m ∷ []))) e
      (λ a b. record { move = flushes v m i a b; giving_is = refl; coming_is = refl })

-- The moves of a helper whose state is x, to whom m has come.
module _ (v : View) (m : Mail) (x : Holding) (e : holding_at v.holdings m.receiver.number ≡ x) (a b : List Mail) (s : v.post ≡ a ++ m ∷ b) where
  pub turn_takes : (c : ℕ) → ToHelper v m (Work c) → Turn false 1 v (now_has v m.receiver.number (took x c) (a ++ b))
  turn_takes c t = subst (λ (y : Holding). Turn false 1 v (now_has v m.receiver.number (took y c) (a ++ b))) e (record { move = takes v m c a b s t; giving_is = refl; coming_is = refl })

  pub turn_keeps : (c : ℕ) → ToHelper v m (More c) → Turn false 1 v (now_has v m.receiver.number (answered x c) (a ++ b))
  turn_keeps c t = subst (λ (y : Holding). Turn false 1 v (now_has v m.receiver.number (answered y c) (a ++ b))) e (record { move = keeps v m c a b s t; giving_is = refl; coming_is = refl })

  pub turn_hears : ToHelper v m NoMore → Turn false 1 v (now_has v m.receiver.number (answered x 0) (a ++ b))
  turn_hears t = subst (λ (y : Holding). Turn false 1 v (now_has v m.receiver.number (answered y 0) (a ++ b))) e (record { move = hears v m a b s t; giving_is = refl; coming_is = refl })

  pub turn_declines : (n : Mail) (c : ℕ) → ToHelper v m (More c) → x.working ≡ false → ToBoss v m.receiver.number n (Back (x.coins + c)) →
      Turn false 1 v (now_has v m.receiver.number idle ((a ++ b) ++ n ∷ []))
  turn_declines n c t =
      subst (λ (y : Holding). y.working ≡ false → ToBoss v m.receiver.number n (Back (y.coins + c)) → Turn false 1 v (now_has v m.receiver.number idle ((a ++ b) ++ n ∷ []))) e
      (λ f k. record { move = declines v m n c a b s t f k; giving_is = refl; coming_is = refl })

-- What a node did is what is played.
use Rattle.std.proofs.Common.{◌≡◌, ℕ, suc, ◌+◌, ◌<◌, Bool, true, cond, ltb, List, [], ◌∷◌, ◌++◌, length, get_or, set, Result, Ok, Err, IsOkAnd, MatchResult, sym, ap, ◌∙◌, arith}
use Rattle.std.specs.declared.alloc.AllocError.{AllocError}
use Rattle.std.proofs.lemmas.List.{get_or-map, map-set, map_push, set-get_or, length-map}
use Rattle.std.proofs.lemmas.Bool.{ltb-true}
use Rattle.boss_coins.specs.declared.boss.Boss.{Boss}
use Rattle.helper_coins.specs.declared.helper.Helper.{Helper}
use Rattle.lines.specs.declared.packet.Packet.{Packet}
use Rattle.nodes.specs.declared.node.Node.{Node as Held}
use Rattle.nodes.specs.Arrivals.{Node, Replied, Happens}
use Rattle.nodes.specs.HelperSteps.{new_helper_node}
use Rattle.nodes.specs.Viewed.{node_of}
use Rattle.scenes.specs.declared.command.Response.{Response}
use Rattle.scenes.specs.Scenes.{Scene, staff, no_node, node_at}
use Rattle.scenes.specs.Plays.{Out, helper_is, helper_did}
use Rattle.lossy_stage.specs.Outcomes.{Outcome}
use Rattle.lossy_stage.specs.Tables.{helpers_in}

staff_on : (i : ℕ) → staff i ++ new_helper_node (record { number = i }) ∷ [] ≡ staff (i + 1)
unfolding staff
staff_on i = let e : suc i ≡ i + 1 = omega arith in ap staff e

-- the helpers in the code's memory: x is the one at place i
pub there : (xs : List (Held Helper)) (i : ℕ) (x : Held Helper) → i < length xs → x ≡ get_or xs i x → node_at (helpers_in xs) i ≡ node_of x
unfolding helpers_in
there xs i x l e = get_or-map node_of xs i x no_node l ∙ ap node_of (sym e)

pub put : (xs : List (Held Helper)) (i : ℕ) (y : Held Helper) → helpers_in (set xs i y) ≡ set (helpers_in xs) i (node_of y)
unfolding helpers_in
put xs i y = map-set node_of xs i y

pub long : (xs : List (Held Helper)) → length (helpers_in xs) ≡ length xs
unfolding helpers_in
long xs = length-map xs node_of

-- what a node replied, as it is told
abbrev pub Tells : {R : Type 0} → (R → Response) → Result R AllocError → Result Response AllocError → Type 0
Tells tell r q = MatchResult r (λ x. IsOkAnd q (λ y. y ≡ tell x)) (λ why. q ≡ Err why)

-- x is the helper at place i, which comes to y; os is all that has gone out then
module _ (b : Node Boss) (xs : List (Held Helper)) (net os : List Packet) (i : ℕ) (x y : Held Helper) (e : x ≡ get_or xs i x) (l : ltb i (length (helpers_in xs)) ≡ true) where
  abbrev before : Scene
  before = record { boss = b; helpers = helpers_in xs; net = net }

  abbrev after : Scene
  after = record { boss = b; helpers = helpers_in (set xs i y); net = os }

  goes : helper_is before i (node_of y) os ≡ after
  goes = ap (λ (hs : List (Node Helper)). record { boss = b; helpers = hs; net = os }) (sym (put xs i y))

  there-is : node_at (helpers_in xs) i ≡ node_of x
  there-is = there xs i x (let z = ltb-true i (length (helpers_in xs)) l in omega (arith, z, long xs)) e

  same : node_of y ≡ node_of x → os ≡ net → after ≡ before
  same n o =
      sym goes ∙ ap (λ (m : Node Helper). helper_is before i m os) (n ∙ sym there-is) ∙ ap (helper_is before i (node_at (helpers_in xs) i)) o
      ∙ ap (λ (hs : List (Node Helper)). record { boss = b; helpers = hs; net = net }) (set-get_or (helpers_in xs) i no_node)

  did : {R : Type 0} (tell : R → Response) (D : Node Helper → List Packet → Replied Helper R) (r : Result R AllocError) (q : Result Response AllocError) → Happens D (node_of x) net (node_of y) os r → Tells tell r q →
      Outcome (helper_did before i tell (D (node_at (helpers_in xs) i) net)) before after q
  did tell D (Ok a) (Ok z) h t = ap (λ (n : Node Helper). helper_did before i tell (D n net)) there-is ∙ ap (helper_did before i tell) h ∙ (λ j. record { scene = goes j; response = sym t j })
  did tell D (Ok a) (Err why) h t = absurd t
  did tell D (Err why) q h t = rw t (same h.0 h.1)

  pub helper_played : {R : Type 0} (tell : R → Response) (D : Node Helper → List Packet → Replied Helper R) (r : Result R AllocError) (q : Result Response AllocError) → Happens D (node_of x) net (node_of y) os r → Tells tell r q →
      (t : Bool) (p : Out) → t ≡ true → Outcome (cond t (helper_did before i tell (D (node_at (helpers_in xs) i) net)) p) before after q
  helper_played tell D r q h t test p w = rw w (did tell D r q h t)

-- one more helper
pub staff_more : (xs ys : List (Held Helper)) (y : Held Helper) (i : ℕ) → ys ≡ xs ++ y ∷ [] → node_of y ≡ new_helper_node (record { number = i }) → helpers_in xs ≡ staff i → helpers_in ys ≡ staff (i + 1)
unfolding helpers_in
staff_more xs ys y i e n h = rw e (map_push node_of xs y ∙ ap (λ (hs : List (Node Helper)). hs ++ node_of y ∷ []) h ∙ ap (λ (x : Node Helper). staff i ++ x ∷ []) n ∙ staff_on i)

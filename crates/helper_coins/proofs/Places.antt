-- The places of letters, among slots and among the numbers and holdings that are seen of them.
use Rattle.std.proofs.Common.{◌≡◌, ℕ, zero, suc, ◌<◌, Bool, true, false, List, [], ◌∷◌, map, refl, ◌==◌, Some, arith, set, get_or, slice_index}
use Rattle.std.specs.List.{position, position_or_len}
use Rattle.std.proofs.Math.Seq.{map-set_same}
use Rattle.std.proofs.lemmas.List.{length-map, map-set}
use Rattle.std.proofs.lemmas.List.Quantifiers.{position-Some}
use Rattle.std.proofs.lemmas.Grind.{common_steps}
use Rattle.coins.specs.Letters.{found}
use Rattle.helper_coins.specs.declared.slot.Slot.{Slot}
use Rattle.helper_coins.specs.declared.holding.Holding.{Holding}
use Rattle.helper_coins.specs.Slots.{number_in, holding_in, numbers, holdings}

places_map : {X Y : Type 0} (p : Y → Bool) (f : X → Y) (xs : List X) → position_or_len (λ x. p (f x)) xs ≡ position_or_len p (map f xs)
places_map p f [] = refl
places_map p f (x ∷ xs) = rw (places_map p f xs)

-- a test of what is seen of an item finds the same place
pub position_map : {X Y : Type 0} (p : Y → Bool) (f : X → Y) (xs : List X) → position (λ x. p (f x)) xs ≡ position p (map f xs)
position_map p f xs = rw (places_map p f xs, length-map)

-- what is written into a slot is seen there
pub numbers_set : (xs : List Slot) (i : ℕ) (s : Slot) → numbers (set xs i s) ≡ set (numbers xs) i s.letter.number
numbers_set xs i s = map-set number_in xs i s

pub holdings_set : (xs : List Slot) (i : ℕ) (s : Slot) → holdings (set xs i s) ≡ set (holdings xs) i s.holding
holdings_set xs i s = map-set holding_in xs i s

-- a letter keeps its number when its holding changes
pub numbers_kept : (xs : List Slot) (i : ℕ) (d : Slot) (x : Holding) → numbers (set xs i (record { letter = (get_or xs i d).letter; holding = x })) ≡ numbers xs
numbers_kept xs i d x = map-set_same number_in xs i (record { letter = (get_or xs i d).letter; holding = x }) d refl

-- the place of a letter is not free
pub found_taken : (ns : List ℕ) (n i : ℕ) → found ns n ≡ Some i → 0 < slice_index ns i
found_taken ns zero i e = cc
found_taken ns (suc n) i e =
    let some : (suc n == 0) ≡ false = grind arith in
    let there : (slice_index ns i == suc n) ≡ true = (position-Some (λ x. x == suc n) ns i 0 (rw some at e)).1 in
    grind arith

pub ruleset stored = (common_steps, numbers_set, holdings_set, numbers_kept, found_taken)

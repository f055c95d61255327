-- The ends in the code's memory, one by one.
use Rattle.std.proofs.Common.{◌≡◌, ℕ, ◌<◌, Bool, true, false, List, length, get_or, set, vec_items, sym, ap, ◌∙◌, subst, inl, inr, arith}
use Rattle.std.proofs.lemmas.List.{get_or-map, map-set, set-get_or, get_or-set_other}
use Rattle.std.proofs.lemmas.Grind.{common_steps}
use Rattle.std.proofs.lemmas.Bool.Decides.{nat_tests, eqb_tells}
use Rattle.lines.specs.declared.end.LineEnd.{LineEnd}
use Rattle.lines.specs.declared.ends.LineEnds.{LineEnds}
use Rattle.lines.specs.Ends.{fresh_end, slot, end_at}
use Rattle.lines.specs.Viewed.{end_of, ends_in, ends_of, spare, spares, spares_of, ready}

slot_inside : (peer i : ℕ) → i ≡ slot peer → i < 257
slot_inside peer i e = grind (arith, nat_tests)

pub end_put : (xs : List LineEnd) (i : ℕ) (y : LineEnd) → ends_in (set xs i y) ≡ set (ends_in xs) i (end_of y)
unfolding ends_in
end_put xs i y = map-set end_of xs i y

-- x is the end of the line to a peer, at place i
module _ (ends : LineEnds) (peer i : ℕ) (x : LineEnd) (s : i ≡ slot peer) (is : x ≡ get_or (vec_items ends.ends) i x) where
  inside : i < length (vec_items ends.ends)
  inside = let l = ends.ends.ok.0 in let a = ends.all in let h = slot_inside peer i s in omega arith

  pub end_there : end_at (ends_of ends) (slot peer) ≡ end_of x
  unfolding ends_in
  end_there = rw (← s) (get_or-map end_of (vec_items ends.ends) i x fresh_end inside ∙ ap end_of (sym is))

  pub ready_there : ready ends (slot peer) ≡ spare x
  unfolding spares
  ready_there = rw (← s) (get_or-map spare (vec_items ends.ends) i x false inside ∙ ap spare (sym is))

  -- it is as it was
  pub stays_there : (y : LineEnd) → end_of y ≡ end_of x → ends_in (set (vec_items ends.ends) i y) ≡ ends_of ends
  unfolding ends_in
  stays_there y h = end_put (vec_items ends.ends) i y ∙ ap (set (ends_of ends) i) (h ∙ sym end_there ∙ ap (end_at (ends_of ends)) (sym s)) ∙ set-get_or (ends_of ends) i fresh_end

  -- whether there is memory for one more at an end that has come to y
  pub spare_put : (y : LineEnd) → get_or (spares (set (vec_items ends.ends) i y)) (slot peer) false ≡ spare y
  unfolding spares
  spare_put y = let l = inside in grind (arith, common_steps, map-set)

  pub spares_stay : (y : LineEnd) → spare y ≡ spare x → spares (set (vec_items ends.ends) i y) ≡ spares_of ends
  unfolding spares
  spares_stay y h = map-set spare (vec_items ends.ends) i y ∙ ap (set (spares_of ends) i) (h ∙ sym ready_there ∙ ap (ready ends) (sym s)) ∙ set-get_or (spares_of ends) i false

  -- memory that was ready at some end is ready still
  pub ready_still : (y : LineEnd) → (spare x ≡ true → spare y ≡ true) → (j : ℕ) → ready ends j ≡ true → get_or (spares (set (vec_items ends.ends) i y)) j false ≡ true
  unfolding spares
  ready_still y h j e = elim (eqb_tells j i) [
    | inl t ↦ subst (λ (k : ℕ). get_or (spares (set (vec_items ends.ends) i y)) k false ≡ true) (sym (t.1 ∙ s)) (spare_put y ∙ h (sym ready_there ∙ ap (ready ends) (sym (t.1 ∙ s)) ∙ e))
    | inr t ↦ ap (λ (bs : List Bool). get_or bs j false) (map-set spare (vec_items ends.ends) i y) ∙ get_or-set_other (spares_of ends) i j (spare y) false t.1 ∙ e
  ]

-- what is known of the end at a peer's place
pub ruleset there = (end_there, ready_there, end_put, stays_there, spare_put, spares_stay, ready_still)

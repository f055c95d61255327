-- Looking along the packets of a line.
use Rattle.std.proofs.Common.{◌≡◌, ℕ, zero, suc, ◌+◌, ◌-◌, ◌<◌, Bool, true, false, cond, eqb, List, [], ◌∷◌, length, Option, Some, None, MatchOption, refl, sym, ap, subst, arith}
use Rattle.std.proofs.lemmas.Bool.{ne_eqb}
use Rattle.std.specs.List.{slice_get, filter, enumerate_from}
use Rattle.std.specs.Option.{option_map}
use denote.Ref.{Bor}
use Rattle.coins.specs.declared.ids.NodeId.{NodeId}
use Rattle.lines.specs.declared.packet.Packet.{Packet}
use Rattle.scenes.specs.Plays.{goes_on, seek_packet}

-- x is the packet at place t behind the place n; or there are only l, and t is none of them
abbrev At : ℕ → ℕ → ℕ → Option (ℕ × Packet) → Type 0
At n t l x = MatchOption x (t ≡ l) (λ y. (y.0 ≡ n + t) × (t < l))

past : (n t l : ℕ) (x : Option (ℕ × Packet)) → At (n + 1) t l x → At n (suc t) (suc l) x
past n t l None h = ap suc h
past n t l (Some y) h = (omega (arith, h.0), omega (arith, h.1))

-- b: whether the packet x goes on the line; f: where the search ends behind it
at_next : (b : Bool) (x : ℕ × Packet) (rest : List (ℕ × Packet)) (f : ℕ → ℕ) (l n k : ℕ) → x.0 ≡ n → ((j : ℕ) → At (n + 1) (f j) l (slice_get rest j)) →
    At n (cond b (cond (eqb k 0) 0 (suc (f (k - 1)))) (suc (f k))) (suc l) (slice_get (cond b (x ∷ rest) rest) k)
at_next true x rest f l n zero e h = (omega (arith, e), omega arith)
at_next true x rest f l n (suc k) e h =
    let some : eqb (suc k) 0 ≡ false = ne_eqb (suc k) 0 (λ z. omega (arith, z)) in
    let less : suc k - 1 ≡ k = omega arith in
    rw (some, less) (past n (f k) l (slice_get rest k) (h k))
at_next false x rest f l n k e h = past n (f k) l (slice_get rest k) (h k)

module _ (s r : NodeId) where
  abbrev pub on : ℕ × Packet → Bool
  on x = goes_on s r x.1

  found_at : (ps : List Packet) (n k : ℕ) → At n (seek_packet ps s r k) (length ps) (slice_get (filter on (enumerate_from n ps)) k)
  unfolding seek_packet
  found_at [] n k = refl
  found_at (p ∷ ps) n k = at_next (goes_on s r p) (n, p) (filter on (enumerate_from (n + 1) ps)) (seek_packet ps s r) (length ps) n k refl (found_at ps (n + 1))

  -- x is what the search found
  pub found : (ps : List Packet) (k : ℕ) (x : Option (ℕ × Bor Packet)) → option_map (λ y. (y.0, y.1.now)) x ≡ slice_get (filter on (enumerate_from 0 ps)) k →
      MatchOption x (seek_packet ps s r k ≡ length ps) (λ y. (y.0 ≡ seek_packet ps s r k) × (seek_packet ps s r k < length ps))
  found ps k None e = subst (At 0 (seek_packet ps s r k) (length ps)) (sym e) (found_at ps 0 k)
  found ps k (Some y) e = let h = subst (At 0 (seek_packet ps s r k) (length ps)) (sym e) (found_at ps 0 k) in (omega (arith, h.0), h.1)

-- A message read part by part.
use Rattle.std.proofs.Common.{◌≡◌, ℕ, ◌+◌, ◌-◌, ◌<◌, ◌≤◌, Bool, true, false, cond, ◌&&◌, ◌||◌, eqb, leb, List, ◌∷◌, length, get_or, drop, Some, None, Option, MatchOption, sym, refl, ap, ◌∙◌, arith, length-drop}
use Rattle.std.specs.Bool.{then_some}
use Rattle.std.proofs.lemmas.List.{drop-drop, get_or-drop}
use Rattle.std.proofs.lemmas.Bool.Decides.{nat_tests}
use Rattle.wire.specs.declared.message.Body.{Body}
use Rattle.wire.specs.declared.message.Message.{Message}
use Rattle.wire.specs.Numbers.{number_at}
use Rattle.wire.specs.Messages.{Msg, view}
use Rattle.wire.specs.Bytes.{is_whole, ends, body_of, is_fine, decode}
use Rattle.wire.proofs.Numbers.{number_at_drop}
use Rattle.wire.proofs.Lengths.{said}

-- one part further
pub on : (bs : List ℕ) (i k : ℕ) {rest next : List ℕ} → rest ≡ drop i bs → next ≡ drop k rest → next ≡ drop (i + k) bs
on bs i k r n = n ∙ (ap (drop k) r ∙ drop-drop k i bs)

same_ends : (k v n : ℕ) → 17 ≤ n →
    (leb 17 n && eqb n (cond (eqb k 1) (27 + v) (cond (eqb k 2 || eqb k 3) 25 (cond (eqb k 4 || eqb k 5) 17 0)))) ≡
    cond (eqb k 1) (eqb (n - 17) (10 + v)) (cond (eqb k 2 || eqb k 3) (eqb (n - 17) 8) (cond (eqb k 4 || eqb k 5) (eqb (n - 17) 0) false))
same_ends k v n h = grind (arith, nat_tests)

-- bytes are whole if just what belongs there follows the kind
whole_ends : (bs : List ℕ) → 17 ≤ length bs → is_whole bs ≡ ends (get_or bs 16 0) (drop 17 bs)
whole_ends bs h = rw (length-drop 17 bs, number_at_drop 2 bs 17 8) (same_ends (get_or bs 16 0) (number_at 2 bs 25) (length bs) h)

-- a part that should stand at a place is not all there
pub cut_short : (bs : List ℕ) (i k : ℕ) {rest : List ℕ} → rest ≡ drop i bs → length rest < k → i + k ≤ 17 → decode bs ≡ None
unfolding decode
cut_short bs i k r l h =
    let short : length bs < 17 = omega (arith, length-drop i bs, ap length r) in
    let no : leb 17 (length bs) ≡ false = grind (arith, nat_tests) in
    rw no

-- the kind, and what follows it
pub record Kinded (bs rest : List ℕ) (k : ℕ) : Type 0 where
  pub long : 17 ≤ length bs
  pub kind : k ≡ get_or bs 16 0
  pub after : rest ≡ drop 17 bs

pub kinded : (bs : List ℕ) (k : ℕ) (rest : List ℕ) {from : List ℕ} → from ≡ drop 16 bs → from ≡ k ∷ rest → Kinded bs rest k
kinded bs k rest f e =
    let both : drop 16 bs ≡ k ∷ rest = sym f ∙ e in record {
      long = omega (arith, length-drop 16 bs, ap length both);
      kind = ap (λ xs. get_or xs 0 0) (sym both) ∙ get_or-drop 16 bs 0 0;
      after = ap (drop 1) (sym both) ∙ drop-drop 1 16 bs;
    }

pub cut_wrong : (bs rest : List ℕ) (k : ℕ) → Kinded bs rest k → ends k rest ≡ false → decode bs ≡ None
unfolding decode
cut_wrong bs rest k t f =
    let no : is_whole bs ≡ false = whole_ends bs t.long ∙ (rw (t.kind, t.after) at f) in rw no

-- all of it is read
pub cut_whole : (bs rest : List ℕ) (l s r n k : ℕ) (b : Body) (w : List ℕ) → l ≡ number_at 4 bs 0 → s ≡ number_at 2 bs 4 → r ≡ number_at 2 bs 6 → n ≡ number_at 8 bs 8 →
    Kinded bs rest k → ends k rest ≡ true → b ≡ body_of k (number_at 8 rest 0) → w ≡ drop 10 rest →
    decode bs ≡ cond (is_fine (said l s r n b w)) (Some (said l s r n b w)) None
unfolding decode
cut_whole bs rest l s r n k b w letter sender receiver number t e body work =
    let whole : is_whole bs ≡ true = whole_ends bs t.long ∙ (rw (t.kind, t.after) at e) in
    rw (letter, sender, receiver, number, body, work, t.kind, t.after, number_at_drop 8 bs 17 0, drop-drop 10 17 bs, whole) refl

pub then_read : (t : Bool) (m : Message) (d : Option Msg) (o : Option Message) → o ≡ then_some t m → d ≡ cond t (Some (view m)) None → MatchOption o (d ≡ None) (λ x. d ≡ Some (view x))
then_read true m d o p q = rw p q
then_read false m d o p q = rw p q

-- The first pair of digits, and those after it.
use Rattle.std.proofs.Common.{◌≡◌, ◌≢◌, ℕ, ◌-◌, ◌%◌, ◌<◌, ◌≤◌, Bool, true, false, cond, ◌&&◌, List, [], ◌∷◌, ◌++◌, length, get_or, take, drop, Some, None, sym, refl, ap, ◌∙◌, arith}
use Rattle.std.proofs.lemmas.List.{append_assoc, take_all, length-take, length-drop, append-nil}
use Rattle.std.proofs.lemmas.Bool.Decides.{nat_tests}
use Rattle.text.specs.Hex.{is_hex, all_hex, byte_of, bytes_of, is_hex_text}

-- what a pair gives, from either side
pub some_cond : (t : Bool) (x v : ℕ) → Some x ≡ cond t (Some v) None → (t ≡ true) × (x ≡ v)
some_cond true x v e = (refl, cc)
some_cond false x v e = absurd (let z : ◌≡◌ {A = ℕ} 0 1 = cc in omega arith)

pub none_cond : (t : Bool) (v : ℕ) → None ≡ cond t (Some v) None → t ≡ false
none_cond true v e = absurd (let z : ◌≡◌ {A = ℕ} 0 1 = cc in omega arith)
none_cond false v e = refl

-- what is left of a list behind its first two
abbrev pub behind_two : List ℕ → List ℕ
behind_two xs = take (length xs - 2) (drop 2 xs)

pub two_more : (xs : List ℕ) → 2 ≤ length xs → xs ≡ get_or xs 0 0 ∷ get_or xs 1 0 ∷ behind_two xs
two_more [] h = absurd (omega arith)
two_more (a ∷ []) h = absurd (omega arith)
two_more (a ∷ b ∷ rest) h = ap (λ ys. a ∷ b ∷ ys) (sym (take_all (length (a ∷ b ∷ rest) - 2) rest (omega arith)))

pub bytes_more : (xs : List ℕ) → 2 ≤ length xs → bytes_of xs ≡ byte_of (get_or xs 0 0) (get_or xs 1 0) ∷ bytes_of (behind_two xs)
unfolding bytes_of
bytes_more xs h = ap (λ ys. bytes_of ys) (two_more xs h)

both : (a b r : Bool) → (a && b) ≡ true → (a && (b && r)) ≡ r
both a b r e = grind arith

either : (a b r : Bool) → (a && b) ≡ false → (a && (b && r)) ≡ false
either a b r e = grind arith

pub hex_more : (xs : List ℕ) → 2 ≤ length xs → (is_hex (get_or xs 0 0) && is_hex (get_or xs 1 0)) ≡ true → all_hex xs ≡ all_hex (behind_two xs)
unfolding all_hex
hex_more xs h e = ap (λ ys. all_hex ys) (two_more xs h) ∙ both (is_hex (get_or xs 0 0)) (is_hex (get_or xs 1 0)) _ e

pub hex_no : (xs : List ℕ) → 2 ≤ length xs → (is_hex (get_or xs 0 0) && is_hex (get_or xs 1 0)) ≡ false → all_hex xs ≡ false
unfolding all_hex
hex_no xs h e = ap (λ ys. all_hex ys) (two_more xs h) ∙ either (is_hex (get_or xs 0 0)) (is_hex (get_or xs 1 0)) _ e

-- one byte more is read
pub read_more : (items more xs all : List ℕ) (byte : ℕ) → 2 ≤ length xs → more ≡ items ++ byte ∷ [] → byte ≡ byte_of (get_or xs 0 0) (get_or xs 1 0) → items ++ bytes_of xs ≡ all → more ++ bytes_of (behind_two xs) ≡ all
read_more items more xs all byte h p q r =
    let here : bytes_of xs ≡ byte ∷ bytes_of (behind_two xs) = rw q (bytes_more xs h) in
    rw p (append_assoc items (byte ∷ []) (bytes_of (behind_two xs)) ∙ (ap (λ ys. items ++ ys) (sym here) ∙ r))

pub even_more : (xs : List ℕ) → 2 ≤ length xs → length xs % 2 ≡ 0 → length (behind_two xs) % 2 ≡ 0
even_more xs h e = let same : length (behind_two xs) ≡ length xs - 2 = simp (length-take, length-drop) (omega arith) in rw same (omega arith)

-- nothing is left
bytes_none : (xs : List ℕ) → length xs ≡ 0 → bytes_of xs ≡ []
unfolding bytes_of
bytes_none [] h = refl
bytes_none (a ∷ rest) h = absurd (omega arith)

hex_none : (xs : List ℕ) → length xs ≡ 0 → all_hex xs ≡ true
unfolding all_hex
hex_none [] h = refl
hex_none (a ∷ rest) h = absurd (omega arith)

pub read_all : (items xs all : List ℕ) → length xs < 2 → length xs % 2 ≡ 0 → items ++ bytes_of xs ≡ all → items ≡ all
read_all items xs all h e r = let none : bytes_of xs ≡ [] = bytes_none xs (omega arith) in sym (append-nil items) ∙ (rw none at r)

-- what is the hexadecimal of bytes, and what is not
pub hex_yes : (text : List ℕ) → length text % 2 ≡ 0 → all_hex text ≡ true → is_hex_text text ≡ true
unfolding is_hex_text
hex_yes text p q = rw (p, q)

pub hex_all : (text xs : List ℕ) → length text % 2 ≡ 0 → length xs < 2 → length xs % 2 ≡ 0 → all_hex xs ≡ all_hex text → is_hex_text text ≡ true
hex_all text xs p h e same = hex_yes text p (sym same ∙ hex_none xs (omega arith))

pub hex_odd : (text : List ℕ) → length text % 2 ≢ 0 → is_hex_text text ≡ false
unfolding is_hex_text
hex_odd text h = grind (arith, nat_tests)

pub hex_not : (text : List ℕ) → all_hex text ≡ false → is_hex_text text ≡ false
unfolding is_hex_text
hex_not text e = grind arith

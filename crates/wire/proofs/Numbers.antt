-- Numbers as bytes, over the width.
use Rattle.std.proofs.Common.{◌≡◌, ℕ, zero, suc, ◌+◌, ◌*◌, ◌/◌, ◌%◌, ◌^◌, ◌<◌, ◌≤◌, List, ◌∷◌, ◌++◌, length, get_or, take, drop, sym, refl, ap, ◌∙◌, ⊎_elim, add-zero, add_assoc, div-one, w8, w16, w32, w64, mod-lt, mod-eq_of_lt, mul_assoc, add-one, arith}
use native.Mathlib.Nat.{mod-one, mul-add-div_right, mul-add-mod_self_right, pow-succ', one-le-pow}
use lib.Arith.{mod-mul, digits_lt, digits_div}
use Rattle.std.specs.Int.{Width, w128, byte_len, bytes_high_first, from_be_bytes}
use Rattle.std.proofs.lemmas.List.{drop_more, get_or_past, get_or-take, get_or-drop}
use Rattle.std.proofs.lemmas.List.Elements.{All-get_or, All-nil, All-cons}
use Rattle.std.proofs.lemmas.Bool.{cases_lt}
use Rattle.wire.specs.Numbers.{number_bytes, number_at}
use Rattle.wire.specs.Rules.{AllBytes}

full : (w : ℕ) → 0 < 256 ^ w
full w = one-le-pow w 256 (omega arith)

pub length_number_bytes : (w n : ℕ) → length (number_bytes w n) ≡ w
unfolding number_bytes
length_number_bytes zero n = refl
length_number_bytes (suc w) n = ap suc (length_number_bytes w n)

pub all_number_bytes : (w n : ℕ) → AllBytes (number_bytes w n)
unfolding number_bytes
all_number_bytes zero n = All-nil (λ b. b < 256)
all_number_bytes (suc w) n = All-cons (λ b. b < 256) (n / 256 ^ w % 256) (number_bytes w n) (mod-lt (n / 256 ^ w) (omega arith)) (all_number_bytes w n)

-- what stands before the place does not matter
number_at_behind : (w b : ℕ) (bs : List ℕ) (i : ℕ) → number_at w (b ∷ bs) (i + 1) ≡ number_at w bs i
unfolding number_at
number_at_behind zero b bs i = refl
number_at_behind (suc w) b bs i = rw (number_at_behind w b bs (i + 1), add-one)

-- the bytes of a number are that number, as far as there is room
pub number_at_bytes : (w n : ℕ) (ys : List ℕ) → number_at w (number_bytes w n ++ ys) 0 ≡ n % 256 ^ w
unfolding number_at number_bytes
number_at_bytes zero n ys = sym (mod-one n)
number_at_bytes (suc w) n ys =
    rw (number_at_behind w (n / 256 ^ w % 256) (number_bytes w n ++ ys) 0, number_at_bytes w n ys, pow-succ' 256 w) (sym (mod-mul n (omega arith) (full w)))

pub number_at_back : (w n : ℕ) (ys : List ℕ) → n < 256 ^ w → number_at w (number_bytes w n ++ ys) 0 ≡ n
number_at_back w n ys h = number_at_bytes w n ys ∙ mod-eq_of_lt h

byte_at : (bs : List ℕ) (i : ℕ) → AllBytes bs → get_or bs i 0 < 256
byte_at bs i h = ⊎_elim (λ l. All-get_or (λ b. b < 256) bs i 0 l h) (λ l. rw (get_or_past bs i 0 l) (omega arith)) (cases_lt i (length bs))

pub number_at_lt : (w : ℕ) (bs : List ℕ) (i : ℕ) → AllBytes bs → number_at w bs i < 256 ^ w
unfolding number_at
number_at_lt zero bs i h = omega arith
number_at_lt (suc w) bs i h = rw (pow-succ' 256 w) (digits_lt (byte_at bs i h) (number_at_lt w bs (i + 1) h))

-- what stands above so many bytes does not matter
low : (w c v : ℕ) → number_bytes w (c * 256 ^ w + v) ≡ number_bytes w v
unfolding number_bytes
low zero c v = refl
low (suc w) c v = rw (pow-succ' 256 w, ← mul_assoc c 256 (256 ^ w), mul-add-div_right (full w) (c * 256) v, mul-add-mod_self_right c 256 (v / 256 ^ w), low w (c * 256) v)

-- the number that bytes are has those bytes
pub bytes_number_at : (w : ℕ) (bs : List ℕ) (i : ℕ) → AllBytes bs → i + w ≤ length bs → number_bytes w (number_at w bs i) ++ drop (i + w) bs ≡ drop i bs
unfolding number_at number_bytes
bytes_number_at zero bs i h l = rw (add-zero i)
bytes_number_at (suc w) bs i h l =
    let b : ℕ = get_or bs i 0 in
    let v : ℕ = number_at w bs (i + 1) in
    let small : v < 256 ^ w = number_at_lt w bs (i + 1) h in
    let head : (b * 256 ^ w + v) / 256 ^ w % 256 ≡ b = ap (λ (x : ℕ). x % 256) (digits_div b small) ∙ mod-eq_of_lt (byte_at bs i h) in
    let further : i + suc w ≡ (i + 1) + w = omega arith in
    let behind : number_bytes w v ++ drop ((i + 1) + w) bs ≡ drop (i + 1) bs = bytes_number_at w bs (i + 1) h (omega arith) in
    rw (head, low w b v, further, behind) (sym (drop_more bs i 0 (omega arith)))

-- what std writes of a number are its bytes
pub high_first_bytes : (w n : ℕ) → bytes_high_first w n ≡ number_bytes w n
unfolding number_bytes
high_first_bytes zero n = refl
high_first_bytes (suc zero) n = rw (div-one n)
high_first_bytes (suc (suc w)) n = ap (λ xs. n / 256 ^ suc w % 256 ∷ xs) (high_first_bytes (suc w) n)

-- what stands before a place does not matter
pub number_at_drop : (w : ℕ) (bs : List ℕ) (at i : ℕ) → number_at w (drop at bs) i ≡ number_at w bs (at + i)
unfolding number_at
number_at_drop zero bs at i = refl
number_at_drop (suc w) bs at i = rw (get_or-drop at bs i 0, number_at_drop w bs at (i + 1), add_assoc at i 1)

-- nor what stands behind the number
number_at_take : (w k : ℕ) (bs : List ℕ) (i : ℕ) → i + w ≤ k → number_at w (take k bs) i ≡ number_at w bs i
unfolding number_at
number_at_take zero k bs i h = refl
number_at_take (suc w) k bs i h = rw (get_or-take k bs i 0 (omega arith), number_at_take w k bs (i + 1) (omega arith))

-- what std reads of bytes is their number
from_bytes : (w : Width) (bs : List ℕ) → from_be_bytes w bs ≡ number_at (byte_len w) bs 0
unfolding number_at
from_bytes w8 bs = omega arith
from_bytes w16 bs = omega arith
from_bytes w32 bs = simp add_assoc (omega arith)
from_bytes w64 bs = simp add_assoc (omega arith)
from_bytes w128 bs = simp add_assoc (omega arith)

-- the number that is read of the first bytes from a place on
pub number_of_part : (w : Width) (bs : List ℕ) (at : ℕ) {rest part : List ℕ} {n : ℕ} → rest ≡ drop at bs → part ≡ take (byte_len w) rest → n ≡ from_be_bytes w part → n ≡ number_at (byte_len w) bs at
number_of_part w bs at {rest} {part} r p e =
    e ∙ (from_bytes w part ∙ (ap (λ xs. number_at (byte_len w) xs 0) p ∙ (number_at_take (byte_len w) (byte_len w) rest 0 (omega arith)
    ∙ (ap (λ xs. number_at (byte_len w) xs 0) r ∙ (number_at_drop (byte_len w) bs at 0 ∙ ap (number_at (byte_len w) bs) (add-zero at))))))

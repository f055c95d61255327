-- The words of a line.
use Rattle.std.specs.Prelude.{◌≡◌, ℕ, Bool, true, false, Option, MatchOption, not, ◌||◌, List, length, take, drop, ◌==◌, nat_lt}
use Rattle.std.specs.List.{position_or_len}
use Rattle.std.specs.Str.{bytes_eq}

-- what a reader gives: something, where there is such a thing, of which this holds; else nothing
abbrev pub Finds : {A : Type 0} → Option A → Bool → (A → Type 0) → Type 0
Finds found is P = MatchOption found (is ≡ false) (λ a. (is ≡ true) × P a)

-- a comment begins with # (35), and a line ends with 10
abbrev pub is_end : ℕ → Bool
is_end b = b == 35 || b == 10

-- words are separated by spaces (32) and tabs (9)
abbrev pub is_blank : ℕ → Bool
is_blank b = b == 32 || b == 9

abbrev pub is_ink : ℕ → Bool
is_ink b = not (is_blank b)

-- a line up to its comment or its end
unfoldable pub code_of : List ℕ → List ℕ
code_of line = take (position_or_len is_end line) line

-- a text from its first word on, that word, and what follows it
abbrev pub start_of : List ℕ → List ℕ
start_of text = drop (position_or_len is_ink text) text

unfoldable pub has_word : List ℕ → Bool
has_word text = nat_lt 0 (length (start_of text))

unfoldable pub word_of : List ℕ → List ℕ
word_of text = take (position_or_len is_blank (start_of text)) (start_of text)

unfoldable pub rest_of : List ℕ → List ℕ
rest_of text = drop (position_or_len is_blank (start_of text)) (start_of text)

-- a word is this one
unfoldable pub same : List ℕ → List ℕ → Bool
same word name = bytes_eq word name

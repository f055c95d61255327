-- The parts of a line: numbers, letters, helpers and work, each in the first word of a text.
use Rattle.std.specs.Prelude.{ℕ, ◌-◌, Bool, cond, not, ◌&&◌, ◌||◌, List, [], length, take, codes, ◌==◌, nat_le, nat_lt, slice_index}
use Rattle.text.specs.Decimal.{is_number, value}
use Rattle.coins.specs.declared.ids.LetterId.{LetterId}
use Rattle.coins.specs.declared.ids.NodeId.{NodeId}
use Rattle.script.specs.Words.{has_word, word_of, rest_of, same}

-- a word is a number that is at most so much
unfoldable pub is_to : ℕ → List ℕ → Bool
is_to most word = is_number word && nat_le (value word) most

unfoldable pub number_in : List ℕ → ℕ
number_in word = value word

-- a letter's number has 32 bits
abbrev pub is_letter : List ℕ → Bool
is_letter text = has_word text && is_to 4294967295 (word_of text)

abbrev pub letter_in : List ℕ → LetterId
letter_in text = record { number = number_in (word_of text) }

-- a helper's number is at most 255
abbrev pub node_named : List ℕ → NodeId
node_named word = record { number = number_in word }

abbrev pub is_helper : List ℕ → Bool
is_helper text = has_word text && is_to 255 (word_of text)

abbrev pub helper_in : List ℕ → NodeId
helper_in text = node_named (word_of text)

-- the boss or a helper
abbrev pub is_node : List ℕ → Bool
is_node text = has_word text && (same (word_of text) (codes "boss") || is_to 255 (word_of text))

abbrev pub node_in : List ℕ → NodeId
node_in text = cond (same (word_of text) (codes "boss")) (record { number = 65535 }) (node_named (word_of text))

-- who a helper's line is of: its number, and a colon (58) behind it
abbrev pub name_of : List ℕ → List ℕ
name_of word = take (length word - 1) word

abbrev pub is_speaker : List ℕ → Bool
is_speaker word = nat_lt 0 (length word) && (slice_index word (length word - 1) == 58 && is_to 255 (name_of word))

-- the hexadecimal of work: the last word, or none
abbrev pub is_work : List ℕ → Bool
is_work text = not (has_word text) || not (has_word (rest_of text))

abbrev pub work_in : List ℕ → List ℕ
work_in text = cond (has_word text) (word_of text) []

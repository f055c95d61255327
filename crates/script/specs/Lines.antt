-- What each line of a script asks for: which lines can be read, and what they mean.
use Rattle.std.specs.Prelude.{◌≡◌, ℕ, Bool, true, false, cond, not, ◌&&◌, ◌||◌, List, [], Some, None, codes, Option}
use Rattle.coins.specs.declared.ids.NodeId.{NodeId}
use Rattle.stage.specs.declared.command.Command.{Command}
use Rattle.stage.specs.declared.command.Command.TheVariants.{Give, Share, Rest, Say, Pass}
use Rattle.script.specs.declared.line.Line.{Line}
use Rattle.script.specs.declared.line.Line.TheVariants.{Empty, Play, Settle, Show, New}
use Rattle.script.specs.Words.{code_of, has_word, word_of, rest_of, same}
use Rattle.script.specs.Parts.{is_to, number_in, is_letter, letter_in, node_named, is_helper, helper_in, is_node, node_in, name_of, is_speaker, is_work, work_in}

-- what a line asks for, with the bytes of its last word
pub data Plan : Type 0 where
  empty : Plan
  play : Command → List ℕ → Plan
  settle : Plan
  show : Plan
  new : ℕ → Plan

abbrev pub plan_of : Line → Plan
plan_of Empty = empty
plan_of (Play command hex) = play command hex.now
plan_of Settle = settle
plan_of Show = show
plan_of (New helpers) = new helpers

-- what was read of a text: nothing where it can't be, and else what it asks for
abbrev pub Reads : Option Line → Bool → Plan → Type 0
Reads None can plan = can ≡ false
Reads (Some line) can plan = (can ≡ true) × (plan_of line ≡ plan)

-- give L I [HEX]
abbrev pub is_give : List ℕ → Bool
is_give text = is_letter text && (is_helper (rest_of text) && is_work (rest_of (rest_of text)))

abbrev pub give : List ℕ → Plan
give text = play (Give (letter_in text) (helper_in (rest_of text))) (work_in (rest_of (rest_of text)))

-- say L
abbrev pub is_say : List ℕ → Bool
is_say text = is_letter text && not (has_word (rest_of text))

abbrev pub say : List ℕ → Plan
say text = play (Say (letter_in text)) []

-- share L J [HEX], by a helper
abbrev pub share : NodeId → List ℕ → Plan
share by text = play (Share by (letter_in text) (helper_in (rest_of text))) (work_in (rest_of (rest_of text)))

-- rest L, by a helper
abbrev pub rest : NodeId → List ℕ → Plan
rest by text = play (Rest by (letter_in text)) []

-- boss: and what it does
abbrev pub is_boss_line : List ℕ → Bool
is_boss_line text =
    has_word text
    && cond (same (word_of text) (codes "give")) (is_give (rest_of text))
    (cond (same (word_of text) (codes "say")) (is_say (rest_of text)) false)

abbrev pub boss_line : List ℕ → Plan
boss_line text = cond (same (word_of text) (codes "give")) (give (rest_of text)) (say (rest_of text))

-- I: and what it does; share and rest have the form of give and say
abbrev pub is_helper_line : List ℕ → List ℕ → Bool
is_helper_line first text =
    is_speaker first
    && (has_word text
    && cond (same (word_of text) (codes "share")) (is_give (rest_of text))
    (cond (same (word_of text) (codes "rest")) (is_say (rest_of text)) false))

abbrev pub helper_line : List ℕ → List ℕ → Plan
helper_line first text =
    cond (same (word_of text) (codes "share"))
    (share (node_named (name_of first)) (rest_of text))
    (rest (node_named (name_of first)) (rest_of text))

-- pass, alone or with a line from one to another
abbrev pub is_pass : List ℕ → Bool
is_pass text = not (has_word text) || (is_node text && (is_node (rest_of text) && not (has_word (rest_of (rest_of text)))))

abbrev pub pass : List ℕ → Plan
pass text = cond (has_word text) (play (Pass (node_in text) (node_in (rest_of text))) []) settle

-- new K, at most 8
abbrev pub is_new : List ℕ → Bool
is_new text = has_word text && (not (has_word (rest_of text)) && is_to 8 (word_of text))

abbrev pub afresh : List ℕ → Plan
afresh text = new (number_in (word_of text))

-- by the first word
abbrev pub can_begin : List ℕ → List ℕ → Bool
can_begin first text =
    cond (same first (codes "boss:")) (is_boss_line text)
    (cond (same first (codes "pass")) (is_pass text)
    (cond (same first (codes "new")) (is_new text)
    (cond (same first (codes "show")) (not (has_word text)) (is_helper_line first text))))

abbrev pub begin : List ℕ → List ℕ → Plan
begin first text =
    cond (same first (codes "boss:")) (boss_line text)
    (cond (same first (codes "pass")) (pass text)
    (cond (same first (codes "new")) (afresh text)
    (cond (same first (codes "show")) show (helper_line first text))))

-- a line without its comment
abbrev pub is_line : List ℕ → Bool
is_line line = cond (has_word (code_of line)) (can_begin (word_of (code_of line)) (rest_of (code_of line))) true

abbrev pub line_in : List ℕ → Plan
line_in line = cond (has_word (code_of line)) (begin (word_of (code_of line)) (rest_of (code_of line))) empty

-- The table of open letters, row by row.
use Rattle.std.specs.Prelude.{ℕ, zero, suc, ◌-◌, min, Bool, cond, List, [], ◌∷◌, ◌++◌, length, replicate, codes, decimal, ◌==◌}
use Rattle.std.specs.List.{flat_map}
use Rattle.std.specs.List.Sorted.{IsPermutation, IsNonDecreasing}
use Rattle.text.specs.Growth.{Added}
use Rattle.text.specs.Hex.{hex_of}
use Rattle.coins.specs.Mails.{coins_in}
use Rattle.coins.specs.declared.ids.LetterId.{LetterId}
use Rattle.coins.specs.declared.ids.NodeId.{NodeId}
use Rattle.helper_coins.specs.declared.holding.Holding.{Holding}
use Rattle.coins.specs.declared.mail.Mail.{Mail}
use Rattle.coins.specs.declared.mail.Kind.{Kind}
use Rattle.coins.specs.declared.mail.Kind.TheVariants.{Work, More, Back, NoMore, Ask}
use Rattle.coins.specs.Works.{bytes_of}
use Rattle.helper_coins.specs.declared.helper.Helper.{Helper}
use Rattle.helper_coins.specs.Helpers.{holding_of}
use Rattle.boss_coins.specs.Bosses.{given_of, back_of}
use Rattle.runs.specs.System.{helper_at}
use Rattle.coins.specs.declared.parcel.Parcel.{Parcel}
use Rattle.stage.specs.Scenes.{Scene}

-- a number on the right of so many columns; a longer one takes what it needs
abbrev pub right : ℕ → ℕ → List ℕ
right width n = replicate (width - length (decimal n)) 32 ++ decimal n

unfoldable pub coins_column : ℕ → List ℕ
coins_column coins = codes "  " ++ right 10 coins

-- letter L: given G, back B
unfoldable pub counts_row : LetterId → ℕ → ℕ → List ℕ
counts_row letter given back =
    codes "letter " ++ (decimal letter.number ++ (codes ": given " ++ (decimal given ++ (codes ", back " ++ (decimal back ++ 10 ∷ [])))))

-- with two spaces before it, the first in nine columns
abbrev pub work_column : Bool → List ℕ
work_column working = cond working (codes "  yes    ") (codes "  no     ")

abbrev pub asked_column : Bool → List ℕ
asked_column asked = cond asked (codes "  yes") (codes "  no")

-- a helper's number, its coins, whether it is at work, and whether it has asked for more
unfoldable pub helper_row : NodeId → Holding → List ℕ
helper_row helper holding =
    right 8 helper.number ++ (coins_column holding.coins ++ (work_column holding.working ++ (asked_column holding.asked ++ 10 ∷ [])))

-- who sends or receives: 65,535 is the boss
unfoldable pub node_column : NodeId → List ℕ
node_column node = cond (node.number == 65535) (codes "  boss") (right 6 node.number)

abbrev pub kind_column : Kind → List ℕ
kind_column (Work c) = codes "  work"
kind_column (More c) = codes "  more"
kind_column (Back c) = codes "  back"
kind_column NoMore = codes "  none"
kind_column Ask = codes "  ask "

-- bytes in hexadecimal, where there are some
unfoldable pub bytes_column : List ℕ → List ℕ
bytes_column bytes = cond (length bytes == 0) [] (codes "  " ++ hex_of bytes)

-- a message: from, to, kind, coins and the bytes of its work
unfoldable pub mail_row : Mail → List ℕ → List ℕ
mail_row mail bytes =
    node_column mail.sender ++ (node_column mail.receiver ++ (kind_column mail.kind ++ (coins_column (coins_in mail.kind) ++ (bytes_column bytes ++ 10 ∷ []))))

-- the rows of the helpers below n
unfoldable pub helper_rows : List Helper → LetterId → ℕ → List ℕ
helper_rows hs letter zero = []
helper_rows hs letter (suc n) =
    helper_rows hs letter n ++ helper_row (record { number = n }) (holding_of (helper_at hs n) letter.number)

-- a message's row, if it is of the letter; and the rows of all that is under way of it
unfoldable pub row_of : LetterId → Parcel → List ℕ
row_of letter p = cond (p.mail.letter.number == letter.number) (mail_row p.mail (bytes_of p.work)) []

unfoldable pub parcel_rows : LetterId → List Parcel → List ℕ
parcel_rows letter ps = flat_map (row_of letter) ps

-- they have a heading, where there are some
abbrev pub headed : List ℕ → List ℕ
headed [] = []
headed (b ∷ bs) = codes "  from    to  kind       coins  bytes" ++ (10 ∷ (b ∷ bs))

-- a letter: its counts, a row for each helper, and what is under way
unfoldable pub letter_table : Scene → LetterId → List ℕ
letter_table s letter =
    counts_row letter (given_of s.boss letter.number) (back_of s.boss letter.number)
    ++ (codes "  helper       coins  at work  asked" ++ (10 ∷ (helper_rows s.helpers letter (min (length s.helpers) 256)
    ++ headed (parcel_rows letter s.parcels))))

-- the letters with these numbers; 0 stands for none
unfoldable pub table_of : Scene → ℕ → List ℕ
table_of s n = cond (n == 0) [] (letter_table s (record { number = n }))

unfoldable pub tables : Scene → List ℕ → List ℕ
tables s numbers = flat_map (table_of s) numbers

abbrev pub or_none : List ℕ → List ℕ
or_none [] = codes "no letter is open" ++ 10 ∷ []
or_none (b ∷ bs) = b ∷ bs

-- the same numbers, in their order
pub record Sorted (numbers sorted : List ℕ) : Type 0 where
  pub same : IsPermutation numbers sorted
  pub rising : IsNonDecreasing sorted

-- all letters that are open, in the order of their numbers
pub record Shown (s : Scene) (was now : List ℕ) : Type 0 where
  pub numbers : List ℕ
  pub sorted : Sorted s.boss.letters numbers
  pub said : Added was now (or_none (tables s numbers))

-- A heading stands where there are rows, and a line in place of letters where there are none.
use Rattle.std.proofs.Common.{◌≡◌, ℕ, ◌<◌, Bool, true, false, ◌||◌, List, [], ◌∷◌, ◌++◌, length, codes, refl, sym, ap, ◌∙◌, arith, ◌==◌, nat_lt}
use Rattle.std.specs.List.{list_any, flat_map}
use Rattle.std.proofs.lemmas.List.{length-append}
use Rattle.std.proofs.lemmas.Bool.Decides.{nat_tests}
use Rattle.coins.specs.declared.ids.LetterId.{LetterId}
use Rattle.coins.specs.Works.{bytes_of}
use Rattle.coins.specs.declared.mail.Mail.{Mail}
use Rattle.coins.specs.declared.parcel.Parcel.{Parcel}
use Rattle.stage.specs.Scenes.{Scene}
use Rattle.rehearsal.specs.Tables.{mail_row, row_of, parcel_rows, headed, counts_row, letter_table, table_of, tables, or_none}

headed_some : (rows : List ℕ) → 0 < length rows → headed rows ≡ codes "  from    to  kind       coins  bytes" ++ (10 ∷ rows)
headed_some [] h = absurd (omega arith)
headed_some (b ∷ bs) h = refl

or_some : (letters : List ℕ) → 0 < length letters → or_none letters ≡ letters
or_some [] h = absurd (omega arith)
or_some (b ∷ bs) h = refl

a_row : (mail : Mail) (bytes : List ℕ) → 0 < length (mail_row mail bytes)
unfolding mail_row
a_row mail bytes = simp length-append (omega arith)

-- rows of a letter, and letters that are open
abbrev pub is_of : LetterId → Parcel → Bool
is_of letter p = p.mail.letter.number == letter.number

abbrev pub is_open : ℕ → Bool
is_open n = nat_lt 0 n

-- f writes something of what passes a test, and nothing of what does not
module _ {X : Type 0} (f : X → List ℕ) (t : X → Bool) (yes : (x : X) → t x ≡ true → 0 < length (f x)) (no : (x : X) → t x ≡ false → f x ≡ []) where
  some : (xs : List X) → list_any t xs ≡ true → 0 < length (flat_map f xs)
  some [] e = absurd (let z : ◌≡◌ {A = ℕ} 0 1 = cc in omega arith)
  some (x ∷ xs) e = by (t x) refl (some xs) e
    where
      by : (b : Bool) → t x ≡ b → (list_any t xs ≡ true → 0 < length (flat_map f xs)) → (b || list_any t xs) ≡ true → 0 < length (f x ++ flat_map f xs)
      by true q r e = simp length-append (omega (arith, yes x q))
      by false q r e = simp length-append (omega (arith, r e))

  none : (xs : List X) → list_any t xs ≡ false → flat_map f xs ≡ []
  none [] e = refl
  none (x ∷ xs) e = by (t x) refl (none xs) e
    where
      by : (b : Bool) → t x ≡ b → (list_any t xs ≡ false → flat_map f xs ≡ []) → (b || list_any t xs) ≡ false → f x ++ flat_map f xs ≡ []
      by true q r e = absurd (let z : ◌≡◌ {A = ℕ} 0 1 = cc in omega arith)
      by false q r e = rw (no x q) (r e)

row_some : (letter : LetterId) (p : Parcel) → is_of letter p ≡ true → 0 < length (row_of letter p)
unfolding row_of
row_some letter p e = rw e (a_row p.mail (bytes_of p.work))

row_none : (letter : LetterId) (p : Parcel) → is_of letter p ≡ false → row_of letter p ≡ []
unfolding row_of
row_none letter p e = rw e

a_table : (s : Scene) (letter : LetterId) → 0 < length (letter_table s letter)
unfolding letter_table counts_row
a_table s letter = omega arith

table_some : (s : Scene) (n : ℕ) → is_open n ≡ true → 0 < length (table_of s n)
unfolding table_of
table_some s n e = let no : (n == 0) ≡ false = grind (arith, nat_tests) in rw no (a_table s _)

table_none : (s : Scene) (n : ℕ) → is_open n ≡ false → table_of s n ≡ []
unfolding table_of
table_none s n e = let no : (n == 0) ≡ true = grind (arith, nat_tests) in rw no

pub heading : (letter : LetterId) (ps : List Parcel) (r : Bool) → r ≡ list_any (is_of letter) ps → r ≡ true → headed (parcel_rows letter ps) ≡ (codes "  from    to  kind       coins  bytes" ++ 10 ∷ []) ++ parcel_rows letter ps
unfolding parcel_rows
heading letter ps r e t = headed_some (parcel_rows letter ps) (some _ _ (row_some letter) (row_none letter) ps (sym e ∙ t))

pub no_heading : (letter : LetterId) (ps : List Parcel) (r : Bool) → r ≡ list_any (is_of letter) ps → r ≡ false → headed (parcel_rows letter ps) ≡ []
unfolding parcel_rows
no_heading letter ps r e t = ap headed (none _ _ (row_some letter) (row_none letter) ps (sym e ∙ t))

pub letters : (s : Scene) (ns : List ℕ) (r : Bool) → r ≡ list_any is_open ns → r ≡ true → or_none (tables s ns) ≡ tables s ns
unfolding tables
letters s ns r e t = or_some (tables s ns) (some _ _ (table_some s) (table_none s) ns (sym e ∙ t))

pub no_letters : (s : Scene) (ns : List ℕ) (r : Bool) → r ≡ list_any is_open ns → r ≡ false → or_none (tables s ns) ≡ codes "no letter is open" ++ 10 ∷ []
unfolding tables
no_letters s ns r e t = ap or_none (none _ _ (table_some s) (table_none s) ns (sym e ∙ t))

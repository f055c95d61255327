use Rattle.std.proofs.Common.{◌≡◌, ◌++◌, [], ◌∷◌, codes, string_bytes, decimal}
use Rattle.boss_coins.specs.Bosses.{given_of, back_of}
use Rattle.text.specs.Growth.{Added}
use Rattle.text.proofs.Growing.{then_ok}
use Rattle.rehearsal.specs.Tables.{letter_table, counts_row}
use Rattle.rehearsal.proofs.show.push_letter.Goals as goal

pub returns : goal.returns
unfolding letter_table counts_row
returns c =
    let letter = c.args.letter in
    let boss = c.args.stage.now.boss in
    let told : string_bytes c.writeln.new.self ≡ string_bytes c.args.out.now ++ (codes "letter " ++ (decimal letter.number ++ (codes ": given " ++ (decimal c.given-given.result ++ (codes ", back " ++ (decimal c.back-back.result ++ 10 ∷ [])))))) = c.in_ok-writeln.ensures.bytes in
    let counts : Added (string_bytes c.args.out.now) (string_bytes c.writeln.new.self) (counts_row letter (given_of boss letter.number) (back_of boss letter.number)) = record { is = rw (c.given-given.ensures, c.back-back.ensures, c.boss-boss.ensures) at told } in
    let heading : Added (string_bytes c.writeln.new.self) (string_bytes c.writeln-2.new.self) (codes "  helper       coins  at work  asked" ++ 10 ∷ []) = record { is = c.in_ok-writeln-2.ensures.bytes } in
    let under = rw c.parcels.ensures at c.push_parcels.ensures in
    then_ok c.push_parcels.result _ _ counts (then_ok c.push_parcels.result _ _ heading (then_ok c.push_parcels.result _ _ c.in_ok-push_helpers.ensures under))

use Rattle.std.proofs.Common.{[], ◌∷◌, ◌++◌, string_bytes, append_assoc, ap, ◌∙◌}
use Rattle.text.specs.Growth.{Added}
use Rattle.text.proofs.Growing.{then}
use Rattle.rehearsal.specs.Tables.{right, coins_column, work_column, asked_column, helper_row}
use Rattle.rehearsal.proofs.show.push_helper.Goals as goal

pub returns : goal.returns
unfolding helper_row
returns c =
    let holding = c.args.holding in
    let was = string_bytes c.args.out.now in
    let front = right 8 c.args.helper.number in
    let coins = coins_column holding.coins in
    let state = work_column holding.working ++ (asked_column holding.asked ++ 10 ∷ []) in
    let said : Added (string_bytes c.push_counted.new.out) (string_bytes c.push_str.new.self) state = record { is = rw c.state_columns.ensures at c.in_ok-push_str.ensures.bytes } in
    let row : Added was (string_bytes c.push_str.new.self) ((front ++ coins) ++ state) = then c.in_ok-push_counted.ensures said in
    record { is = row.is ∙ ap (λ text. was ++ text) (append_assoc front coins state) }

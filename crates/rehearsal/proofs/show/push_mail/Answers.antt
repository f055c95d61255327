use Rattle.std.proofs.Common.{[], ◌∷◌, string_bytes}
use Rattle.text.specs.Growth.{Added}
use Rattle.text.proofs.Growing.{then}
use Rattle.rehearsal.specs.Tables.{kind_column, mail_row}
use Rattle.rehearsal.proofs.show.push_mail.Goals as goal

pub returns : goal.returns
unfolding mail_row
returns c =
    let kind : Added (string_bytes c.push_node-2.new.out) (string_bytes c.push_str.new.self) (kind_column c.args.mail.kind) = record { is = rw c.kind_column.ensures at c.in_ok-push_str.ensures.bytes } in
    let coins = rw c.coins.ensures at c.in_ok-push_coins.ensures in
    let end : Added (string_bytes c.push_bytes.new.out) (string_bytes c.push_str-2.new.self) (10 ∷ []) = record { is = c.in_ok-push_str-2.ensures.bytes } in
    then c.in_ok-push_node.ensures (then c.in_ok-push_node-2.ensures (then kind (then coins (then c.in_ok-push_bytes.ensures end))))

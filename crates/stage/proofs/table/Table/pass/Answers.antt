use Rattle.std.proofs.Common.{sym, ◌∙◌, vec_items, rules, arith}
use Rattle.coins.specs.declared.parcel.Parcel.{Parcel}
use Rattle.runs.specs.System.{on_line}
use Rattle.stage.specs.Tables.{scene}
use Rattle.stage.proofs.Looks.{head_mails, found_at, found_none, mail_read}
use Rattle.stage.proofs.Outs.{pass_helper, pass_boss, pass_none}
use Rattle.stage.proofs.table.Table.pass.Goals as goal

pub returns-in_default : goal.returns-in_default
returns-in_default c =
    let h = head_mails c.args.sender c.args.receiver (vec_items c.args.self.now.post) in
    pass_none (scene c.args.self.now) c.args.sender c.args.receiver (omega (arith, h, found_none (λ (p : Parcel). on_line c.args.sender c.args.receiver p.mail) (vec_items c.args.self.now.post) (search rules)))

pub returns-then-mail-len : goal.returns-then-mail-len
returns-then-mail-len c =
    let f = found_at (λ (p : Parcel). on_line c.args.sender c.args.receiver p.mail) (vec_items c.args.self.now.post) c.in-Some.k (search rules) in
    let h = head_mails c.args.sender c.args.receiver (vec_items c.args.self.now.post) in
    pass_helper (scene c.args.self.now) c.args.sender c.args.receiver c.in-Some.k c.index.result.now.mail _ (f.0 ∙ sym h) f.1 (search rules)
    (mail_read (vec_items c.args.self.now.post) c.in-Some.k c.index.result.now f.1 c.index.ensures) c.to_helper.ensures

pub returns-else-mail-len : goal.returns-else-mail-len
returns-else-mail-len c =
    let f = found_at (λ (p : Parcel). on_line c.args.sender c.args.receiver p.mail) (vec_items c.args.self.now.post) c.in-Some.k (search rules) in
    let h = head_mails c.args.sender c.args.receiver (vec_items c.args.self.now.post) in
    pass_boss (scene c.args.self.now) c.args.sender c.args.receiver c.in-Some.k c.index.result.now.mail _ (f.0 ∙ sym h) f.1 (search rules)
    (mail_read (vec_items c.args.self.now.post) c.in-Some.k c.index.result.now f.1 c.index.ensures) c.to_boss.ensures

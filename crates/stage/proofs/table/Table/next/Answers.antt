use Rattle.std.proofs.Common.{length, refl, ltb, vec_items, rules}
use Rattle.coins.specs.declared.parcel.Parcel.{Parcel}
use Rattle.stage.specs.Scenes.{seek_helper}
use Rattle.stage.specs.Tables.{scene}
use Rattle.stage.proofs.Looks.{found_at, found_none, mail_read}
use Rattle.stage.proofs.Outs.{next_helper, next_boss}
use Rattle.stage.proofs.table.Table.next.Goals as goal

pub returns-in-Some : goal.returns-in-Some
returns-in-Some c =
    let f = found_at (λ (p : Parcel). ltb p.mail.receiver.number (length (vec_items c.args.self.now.helpers))) (vec_items c.args.self.now.post) c.in-Some.k (search rules) in
    next_helper (scene c.args.self.now) c.passing.result c.in-Some.k c.index.result.now.mail f.0 f.1
    (mail_read (vec_items c.args.self.now.post) c.in-Some.k c.index.result.now f.1 c.index.ensures) c.passing.ensures

pub returns-in-Some-first : goal.returns-in-Some-first
returns-in-Some-first c =
    next_boss (scene c.args.self.now) c.passing-in-Some-first.result (seek_helper (vec_items c.args.self.now.post) (length (vec_items c.args.self.now.helpers))) c.in-Some-first.parcel.now.mail refl (found_none (λ (p : Parcel). ltb p.mail.receiver.number (length (vec_items c.args.self.now.helpers))) (vec_items c.args.self.now.post) (search rules)) (search rules)
    (mail_read (vec_items c.args.self.now.post) 0 c.in-Some-first.parcel.now (search rules) (search rules)) c.passing-in-Some-first.ensures

-- What is replied to bytes that came.
use Rattle.coins.specs.declared.answer.Answer.{Answer}
use Rattle.coins.specs.declared.answer.Answer.TheVariants.{Fine, Refused}
use Rattle.coins.specs.declared.answer.Refusal.TheVariants.{NotNext, NoPlace}
use Rattle.nodes.specs.declared.receipt.Receipt.{Receipt}
use Rattle.nodes.specs.declared.receipt.Receipt.TheVariants.{Took, Old, Ahead, Later, Released, Refused as Turned}

abbrev pub reply_of : Receipt → Answer
reply_of Took = Fine
reply_of Old = Refused NotNext
reply_of Ahead = Refused NotNext
reply_of Later = Refused NoPlace
reply_of Released = Fine
reply_of (Turned why) = Refused why

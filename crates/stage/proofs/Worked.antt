-- The worked cases, computed.
use Rattle.std.proofs.Common.{refl}
use Rattle.std.proofs.lemmas.List.Elements.{All-from_recursion}
use Rattle.runs.specs.System.{crew}
use Rattle.runs.specs.Letter.{holdings_of, post_of}
use Rattle.stage.specs.Scenes.{mails, room}
use Rattle.stage.specs.Cases.{CasesHold, cases, Holds, sharing, asking, resting}

share_holds : Holds sharing
unfolding crew holdings_of post_of mails room
share_holds = (refl, (refl, (refl, (refl, (refl, (refl, (refl, (refl, tt))))))))

ask_holds : Holds asking
unfolding crew holdings_of post_of mails room
ask_holds = (refl, (refl, (refl, (refl, tt))))

rest_holds : Holds resting
unfolding crew holdings_of post_of mails room
rest_holds = (refl, (refl, (refl, (refl, tt))))

pub cases_hold : CasesHold
cases_hold = All-from_recursion Holds cases (share_holds, (ask_holds, (rest_holds, tt)))

use Rattle.std.proofs.Common.{IsSome, subst}
use Rattle.widetext_requests.proofs.Complete.{asks_edit}
use Rattle.widetext_requests.proofs.arguments.parse_edit_request.Goals as goal

pub returns-in-None-clause-complete : goal.returns-in-None-clause-complete
returns-in-None-clause-complete c = λ request types is.
    let asks = asks_edit c.args.text.now c.args.words.now request types is in
    subst IsSome c.in-None.is (c.in_ok-edits.ensures.complete asks.0 asks.1 asks.2)

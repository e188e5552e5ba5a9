use Rattle.std.proofs.Common.{IsSome, subst}
use Rattle.widetext_requests.proofs.Complete.{asks_ends}
use Rattle.widetext_requests.proofs.arguments.parse_ends_request.Goals as goal

pub returns-in_default-clause-complete : goal.returns-in_default-clause-complete
returns-in_default-clause-complete c = λ request is.
    let asks = asks_ends c.args.units.now c.args.calls.now request is in
    subst IsSome c.in_default.is (c.in_ok-units.ensures.complete asks.0 asks.2)

use Rattle.std.proofs.Common.{IsSome, subst, sym}
use Rattle.widetext_requests.proofs.Complete.{unit_parsed}
use Rattle.widetext_requests.proofs.arguments.parse_unit.Goals as goal

pub returns-clause-complete : goal.returns-clause-complete
returns-clause-complete c = λ u is. subst IsSome (sym c.ok.ensures.value) (unit_parsed c.args.digits.now c.from_str_radix.result c.from_str_radix.ensures.value is.0 is.1)

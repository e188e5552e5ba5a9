use Rattle.std.proofs.Common.{rules}
use Rattle.widetext_requests.proofs.Asking.{asked_edit, asked_ends}
use Rattle.widetext_requests.proofs.arguments.parse_arguments.Goals as goal

pub returns-in-len2-up-clause-asked : goal.returns-in-len2-up-clause-asked
returns-in-len2-up-clause-asked c =
    asked_edit c.args.words.now c.word-item-2.result c.text-item.result c.as_str-in-len2-up.result.now c.parse_edit_request.result (search rules) (search rules) (search rules) (search rules) (search rules) c.parse_edit_request.ensures.reads

pub returns-in-len3-clause-complete : goal.returns-in-len3-clause-complete
returns-in-len3-clause-complete c = λ request types asked.
    asked_ends c.args.words.now c.word-item.result c.units-item.result c.calls-item.result c.as_str-in-len3.result.now c.as_str-in-len3-2.result.now c.parse_ends_request.result
    (search rules) (search rules) c.word-item.is c.units-item.is c.calls-item.is (search rules) (search rules) (search rules) c.parse_ends_request.ensures.complete request asked

use Rattle.std.proofs.Common.{rules}
use Rattle.std.specs.Option.{option_map}
use Rattle.wide_unit.specs.Unit.{reported_item}
use Rattle.widetext_requests.specs.Lines.{answer_line}
use Rattle.widetext_requests.proofs.LineTexts.{read_more}
use Rattle.widetext_requests.proofs.ends.push_answers.Goals as goal

pub loop-answer-preserved : goal.loop-answer-preserved
loop-answer-preserved c = read_more answer_line (option_map reported_item) c.args.answers.now c.loop-answer.answer-index c.answer-item.result _ _ _ c.loop-answer-test.true c.loop-answer.invariant (search rules)

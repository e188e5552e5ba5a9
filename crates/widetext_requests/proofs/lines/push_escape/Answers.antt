use Rattle.std.proofs.Common.{rules}
use Rattle.widetext_requests.proofs.LineTexts.{escape_more}
use Rattle.widetext_requests.proofs.lines.push_escape.Goals as goal

pub loop-escape-preserved : goal.loop-escape-preserved
loop-escape-preserved c = record {
  bound = search rules;
  so_far = escape_more _ _ _ _ _ _ c.loop-escape.invariant.so_far c.in-Some.ensures.steps.1.0 (search rules);
}

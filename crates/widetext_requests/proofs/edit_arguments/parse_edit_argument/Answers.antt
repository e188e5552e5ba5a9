use Rattle.std.proofs.Common.{rules, arith, Some}
use Rattle.std.proofs.lemmas.Str.Pattern.{split_parts}
use Rattle.widetext_requests.proofs.Edits.{names_edit, keeps_more}
use Rattle.widetext_requests.proofs.edit_arguments.parse_edit_argument.Goals as goal

pub returns-in-Some-parse_edit-clause-reads : goal.returns-in-Some-parse_edit-clause-reads
returns-in-Some-parse_edit-clause-reads c = names_edit c.args.word.now c.in-Some.name.now c.in-Some.values.now c.in-Some-parse_edit.edit (split_parts 61 c.args.word.now (Some (c.in-Some.name, c.in-Some.values)) c.in-Some.ensures.cases (omega arith)).0 (search rules)

pub loop-c-preserved : goal.loop-c-preserved
loop-c-preserved c = keeps_more _ _ _ _ _ _ c.loop-c.invariant c.in-Some-c.ensures.steps.0 c.in_ok-push.ensures.items

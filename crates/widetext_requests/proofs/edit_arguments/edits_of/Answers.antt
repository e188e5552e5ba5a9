use Rattle.std.proofs.Common.{subst}
use Rattle.widetext_requests.specs.EditArguments.{IsEdit}
use Rattle.widetext_requests.proofs.Edits.{one_each_more}
use Rattle.widetext_requests.proofs.edit_arguments.edits_of.Goals as goal

pub loop-word-preserved : goal.loop-word-preserved
loop-word-preserved c =
    let named = subst (λ word. IsEdit word c.edit.result) c.word-item.is c.edit.ensures in
    rw c.in_ok-push.ensures.items (one_each_more IsEdit c.args.words.now c.loop-word.word-index c.word-item.result _ c.edit.result c.loop-word-test.true c.loop-word.invariant named)

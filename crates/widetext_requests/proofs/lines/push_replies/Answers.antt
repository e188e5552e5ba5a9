use Rattle.std.proofs.Common.{rules}
use Rattle.wide_edit.specs.Step.{reply_data}
use Rattle.widetext_requests.specs.Lines.{reply_line}
use Rattle.widetext_requests.proofs.LineTexts.{read_more}
use Rattle.widetext_requests.proofs.lines.push_replies.Goals as goal

pub loop-reply-preserved : goal.loop-reply-preserved
loop-reply-preserved c = read_more reply_line reply_data c.args.replies.now c.loop-reply.reply-index c.reply-item.result _ _ _ c.loop-reply-test.true c.loop-reply.invariant (search rules)

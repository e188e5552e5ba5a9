use Rattle.std.proofs.Common.{◌≡◌, ◌++◌, take, map}
use Rattle.std.specs.Prelude.{string_bytes}
use Rattle.std.specs.List.{flat_map}
use Rattle.wide_edit.specs.Step.{reply_data}
use Rattle.widetext_requests.specs.Lines.{reply_line}
use Rattle.widetext_requests.proofs.lines.push_replies.Given as goal

abbrev pub invariant-loop-reply : goal.invariant-loop-reply
invariant-loop-reply l = string_bytes l.lines ≡ string_bytes l.fn.lines ++ flat_map reply_line (map reply_data (take l.reply-index l.replies))

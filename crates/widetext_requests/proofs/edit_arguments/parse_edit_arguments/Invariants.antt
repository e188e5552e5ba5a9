use Rattle.std.proofs.Common.{take}
use Rattle.std.specs.Prelude.{string_bytes}
use Rattle.widetext_requests.specs.EditArguments.{AreEach, NamesArgument}
use Rattle.widetext_requests.proofs.edit_arguments.parse_edit_arguments.Given as goal

abbrev pub invariant-loop-word : goal.invariant-loop-word
invariant-loop-word l = AreEach (λ bytes. NamesArgument (string_bytes bytes)) (take l.word-index l.words) l.edits.items

use Rattle.std.proofs.Common.{take}
use Rattle.widetext_requests.specs.EditArguments.{AreEdits}
use Rattle.widetext_requests.proofs.edit_arguments.edits_of.Given as goal

abbrev pub invariant-loop-word : goal.invariant-loop-word
invariant-loop-word l = AreEdits (take l.word-index l.words) l.edits.items

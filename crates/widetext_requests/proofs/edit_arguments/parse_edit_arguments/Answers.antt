use Rattle.std.proofs.Common.{rules, get_or, IsSome, subst, sym}
use Rattle.std.specs.Prelude.{string_bytes}
use Rattle.widetext_requests.specs.EditArguments.{NamesArgument}
use Rattle.widetext_requests.specs.declared.edit_arguments.EditArgument.{EditArgument}
use Rattle.widetext_requests.specs.declared.edit_arguments.EditArgument.TheVariants.{Whole}
use Rattle.wide_edit.specs.declared.edits.Edit.TheVariants.{Pop}
use Rattle.widetext_requests.proofs.Complete.{each_at}
use Rattle.widetext_requests.proofs.Edits.{one_each_more}
use Rattle.widetext_requests.proofs.edit_arguments.parse_edit_arguments.Goals as goal

pub loop-word-preserved : goal.loop-word-preserved
loop-word-preserved c =
    let named = subst (λ word. NamesArgument (string_bytes word) c.in-Some.edit) c.word-item.is (search rules) in
    rw c.in_ok-push-in-Some.ensures.items (one_each_more (λ bytes. NamesArgument (string_bytes bytes)) c.args.words.now c.loop-word.word-index c.word-item.result _ c.in-Some.edit c.loop-word-test.true c.loop-word.invariant named)

pub returns-in-None-clause-complete : goal.returns-in-None-clause-complete
returns-in-None-clause-complete c = λ read types are.
    let at = each_at (λ bytes. NamesArgument (string_bytes bytes)) c.args.words.now read c.loop-word.word-index c.word-item.result (Whole Pop) are c.loop-word-test.true in
    let entry : EditArgument = get_or read c.loop-word.word-index (Whole Pop) in
    let named : NamesArgument (string_bytes c.word-item.result) entry = subst (λ word. NamesArgument (string_bytes word) entry) (sym c.word-item.is) at.1 in
    subst IsSome c.in-None.is (c.in_ok-edit.ensures.complete entry (types c.loop-word.word-index (Whole Pop) at.0) (subst (λ bytes. NamesArgument bytes entry) (sym c.deref.ensures) named))

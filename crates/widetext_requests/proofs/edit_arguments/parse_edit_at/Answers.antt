use Rattle.std.proofs.Common.{sym, subst}
use Rattle.std.specs.Prelude.{encode_utf8}
use Rattle.widetext_requests.specs.EditArguments.{IsNumber, IsNumberThen}
use Rattle.widetext_requests.proofs.Complete.{number_at, inserted, drained, replaced}
use Rattle.widetext_requests.proofs.edit_arguments.parse_edit_at.Goals as goal

pub returns-in_err-first-clause-complete : goal.returns-in_err-first-clause-complete
returns-in_err-first-clause-complete c = λ found types is.
    let at = number_at c.args.name.now c.args.values.now found types is in
    let some = c.in_err-first.ensures.complete at.0 at.1 at.2 at.3 in
    let no : ⊥ = cc some in
    absurd no

pub returns-in_err-only_char-in-insert-clause-complete :
    goal.returns-in_err-only_char-in-insert-clause-complete
returns-in_err-only_char-in-insert-clause-complete c = λ found types is.
    let at = inserted c.args.name.now c.args.values.now found types c.in-insert.is is in
    let some = c.in_err-only_char-in-insert.ensures.complete at.1 at.2 (c.in_ok-first.ensures.rest at.0 (encode_utf8 at.1) at.3) in
    let no : ⊥ = cc some in
    absurd no

pub returns-in_err-parse_number-in-drain-clause-complete :
    goal.returns-in_err-parse_number-in-drain-clause-complete
returns-in_err-parse_number-in-drain-clause-complete c = λ found types is.
    let at = drained c.args.name.now c.args.values.now found types c.in-drain.is is in
    let rest = c.in_ok-first.ensures.rest at.0 at.2 at.4 in
    let some = c.in_err-parse_number-in-drain.ensures.complete at.1 at.3 (subst (λ digits. IsNumber digits at.1) (sym rest) at.5) in
    let no : ⊥ = cc some in
    absurd no

pub returns-in_err-second-in-replace-clause-complete :
    goal.returns-in_err-second-in-replace-clause-complete
returns-in_err-second-in-replace-clause-complete c = λ found types is.
    let at = replaced c.args.name.now c.args.values.now found types c.in-replace.is is in
    let rest = c.in_ok-first.ensures.rest at.0 at.2 at.5 in
    let some = c.in_err-second-in-replace.ensures.complete at.1 at.3 at.4 (subst (λ values. IsNumberThen values at.1 at.3) (sym rest) at.6) in
    let no : ⊥ = cc some in
    absurd no

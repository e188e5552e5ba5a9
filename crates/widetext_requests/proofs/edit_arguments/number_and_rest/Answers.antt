use Rattle.std.proofs.Common.{None, Some, sym, subst}
use Rattle.widetext_requests.specs.EditArguments.{IsNumber}
use Rattle.widetext_requests.proofs.Complete.{after_number}
use Rattle.widetext_requests.proofs.edit_arguments.number_and_rest.Goals as goal

pub returns-in_err-digits-clause-complete : goal.returns-in_err-digits-clause-complete
returns-in_err-digits-clause-complete c = λ n rest small is. absurd (after_number c.args.values.now None n rest c.in_err-digits.ensures.cases is)

pub returns-in_err-parse_number-clause-complete : goal.returns-in_err-parse_number-clause-complete
returns-in_err-parse_number-clause-complete c = λ n rest small is.
    let cut = after_number c.args.values.now (Some (c.in_ok-digits.digits, c.in_ok-digits.rest)) n rest c.in_ok-digits.ensures.cases is in
    let some = c.in_err-parse_number.ensures.complete n small (subst (λ digits. IsNumber digits n) (sym cut.0) is.2) in
    let no : ⊥ = cc some in
    absurd no

pub returns-clause-rest : goal.returns-clause-rest
returns-clause-rest c = λ n rest is. (after_number c.args.values.now (Some (c.in_ok-digits.digits, c.in_ok-digits.rest)) n rest c.in_ok-digits.ensures.cases is).1

use Rattle.std.proofs.Common.{refl, ◌∙◌}
use Rattle.widetext_requests.proofs.Complete.{no_char, one_char, alone}
use Rattle.widetext_requests.proofs.edit_arguments.only_char.Goals as goal

pub returns-in_err-only-clause-complete : goal.returns-in_err-only-clause-complete
returns-in_err-only-clause-complete c = λ x scalar e. absurd (no_char _ x (c.chars-chars.ensures.rest ∙ e) c.in_err-only.ensures.steps.0.0)

pub returns-in-Some-clause-complete : goal.returns-in-Some-clause-complete
returns-in-Some-clause-complete c = λ x scalar e.
    absurd (one_char _ _ _ x c.in_ok-only.only c.in-Some.field-0 (c.chars-chars.ensures.rest ∙ e) c.in_ok-only.ensures.steps.0 c.in-Some.ensures.steps.0)

pub returns-in-None-clause-reads : goal.returns-in-None-clause-reads
returns-in-None-clause-reads c = alone c.args.text.now _ _ c.in_ok-only.only c.chars-chars.ensures.rest c.in_ok-only.ensures.steps.0 c.in-None.ensures.steps.0.0

pub returns-in-None-clause-complete : goal.returns-in-None-clause-complete
returns-in-None-clause-complete c = λ x scalar e. refl

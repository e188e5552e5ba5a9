use Rattle.std.proofs.Common.{◌∙◌, ◌∷◌, [], ◌++◌, ap}
use Rattle.std.specs.Prelude.{string_bytes}
use Rattle.widetext_requests.specs.Lines.{escaped}
use Rattle.widetext_requests.proofs.LineTexts.{more_of, escaped-join}
use Rattle.widetext_requests.proofs.lines.push_escaped.Goals as goal

pub loop-c-preserved : goal.loop-c-preserved
loop-c-preserved c =
    more_of escaped escaped-join c.args.text.now c.loop-c.c-index c.c-item.result _ _ _ c.loop-c-test.true c.loop-c.invariant
    (c.in_ok-push_escape.ensures ∙ ap (λ x. string_bytes c.loop-c.lines ++ escaped (x ∷ [])) c.c-item.is)

use Rattle.std.proofs.Common.{◌++◌, ◌∙◌, ap, sym, map, ⊎_elim, arith}
use Rattle.widetext_requests.specs.Command.{end_letter}
use Rattle.widetext_requests.proofs.Complete.{end_of}
use Rattle.widetext_requests.proofs.arguments.parse_ends.Goals as goal

pub returns-in_default-clause-complete : goal.returns-in_default-clause-complete
returns-in_default-clause-complete c = λ ends e.
    let found = map end_letter c.loop-letter.ends.items in
    let step = ap (λ bytes. found ++ bytes) (sym c.in-Some.ensures.steps) in
    ⊎_elim (λ prefix. absurd (omega arith)) (λ back. absurd (omega arith)) (end_of ends c.loop-letter.ends.items c.in-Some.letter _ (step ∙ c.loop-letter.invariant ∙ e))

use Rattle.std.proofs.Common.{[], ap, sym, ◌∙◌}
use Rattle.std.specs.Prelude.{is_some}
use Rattle.wide_iter.proofs.FaultRuns.{item_first, each_first, run_first, skip_first, skip_to_end}
use Rattle.wide_iter.proofs.lossy_with.LossyWithIterator.next.Goals as goal
use Rattle.wide_iter.proofs.lossy_with.LossyWithIterator.next.Goals.{then-is_none, else-is_none}

pub returns-in-Some-replacement-clause-steps : goal.returns-in-Some-replacement-clause-steps
returns-in-Some-replacement-clause-steps g c =
    record {
      at = λ number rest reports.
          let fault = item_first number rest reports _ _ _ (rw c.in-Some-Err.field-0-is at c.in-Some-Err.ensures.steps) in
          let yields = sym c.replacement.ensures ∙ c.in-Some-replacement.is in
          let again = ap is_some (sym c.replacement-in-Some-replacement.ensures) in
          elim c.if-is_none.branch [
            | then-is_none w ↦ rw (w.self-is, sym c.take.ensures.value ∙ c.in_default.is) (run_first _ _ _ _ _ _ _ _ yields (again ∙ w.if-is_none.ensures) fault (w.first_character-self.ensures.takes.at number rest reports))
            | else-is_none w ↦ rw (w.self-is, sym c.take.ensures.value ∙ c.in_default.is, c.take.ensures.after) (each_first _ _ [] _ _ _ _ yields (again ∙ w.if-is_none.ensures) fault)
          ];
    }

pub returns-in-Some-first_character-clause-steps : goal.returns-in-Some-first_character-clause-steps
returns-in-Some-first_character-clause-steps g c =
    record {
      at = λ number rest reports. let fault = item_first number rest reports _ _ _ (rw c.in-Some-Err.field-0-is at c.in-Some-Err.ensures.steps) in
          rw (sym c.take.ensures.value ∙ c.in_default.is, c.take.ensures.after) (skip_first _ _ _ _ _ _ _ (sym c.replacement.ensures ∙ c.in-None-replacement.is) fault (c.in-Some-first_character.ensures.takes.at number rest reports));
    }

pub returns-in-Some-Err-clause-steps : goal.returns-in-Some-Err-clause-steps
returns-in-Some-Err-clause-steps g c =
    record {
      at = λ number rest reports. let fault = item_first number rest reports _ _ _ (rw c.in-Some-Err.field-0-is at c.in-Some-Err.ensures.steps) in
          let lookahead = c.take-in-None-first_character.ensures in
          rw (sym c.take.ensures.value ∙ c.in_default.is, c.take.ensures.after, lookahead.value, lookahead.after) (skip_to_end _ _ _ _ _ _ (sym c.replacement.ensures ∙ c.in-None-replacement.is) fault (c.in-None-first_character.ensures.takes.at number rest reports));
    }

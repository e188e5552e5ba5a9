use Rattle.std.proofs.Common.{[], ap, sym, ◌∙◌}
use Rattle.std.specs.Prelude.{is_some}
use Rattle.wide_iter.proofs.FaultRuns.{item_last, char_last, each_last, run_last, skip_last, skip_to_front}
use Rattle.wide_iter.proofs.lossy_with.LossyWithDoubleEndedIterator.next_back.Goals as goal
use Rattle.wide_iter.proofs.lossy_with.LossyWithDoubleEndedIterator.next_back.Goals.{then-is_none, else-is_none}

pub returns-in-Some-Ok-clause-steps : goal.returns-in-Some-Ok-clause-steps
returns-in-Some-Ok-clause-steps g c =
    record {
      at = λ number rest reports. let char = item_last number rest reports _ _ _ (rw c.in-Some-Ok.field-0-is at c.in-Some-Ok.ensures.steps) in
          rw (sym c.take.ensures.value ∙ c.in_default.is, c.take.ensures.after) (char_last _ _ [] _ _ _ char);
    }

pub returns-in-Some-replacement-clause-steps : goal.returns-in-Some-replacement-clause-steps
returns-in-Some-replacement-clause-steps g c =
    record {
      at = λ number rest reports.
          let fault = item_last number rest reports _ _ _ (rw c.in-Some-Err.field-0-is at c.in-Some-Err.ensures.steps) in
          let yields = sym c.replacement.ensures ∙ c.in-Some-replacement.is in
          let again = ap is_some (sym c.replacement-in-Some-replacement.ensures) in
          elim c.if-is_none.branch [
            | then-is_none w ↦ rw (w.self-is, sym c.take.ensures.value ∙ c.in_default.is) (run_last _ _ _ _ _ _ _ _ yields (again ∙ w.if-is_none.ensures) fault (w.last_character-self.ensures.takes.at number rest reports))
            | else-is_none w ↦ rw (w.self-is, sym c.take.ensures.value ∙ c.in_default.is, c.take.ensures.after) (each_last _ _ [] _ _ _ _ yields (again ∙ w.if-is_none.ensures) fault)
          ];
    }

pub returns-in-Some-last_character-clause-steps : goal.returns-in-Some-last_character-clause-steps
returns-in-Some-last_character-clause-steps g c =
    record {
      at = λ number rest reports. let fault = item_last number rest reports _ _ _ (rw c.in-Some-Err.field-0-is at c.in-Some-Err.ensures.steps) in
          rw (sym c.take.ensures.value ∙ c.in_default.is, c.take.ensures.after) (skip_last _ _ _ _ _ _ _ (sym c.replacement.ensures ∙ c.in-None-replacement.is) fault (c.in-Some-last_character.ensures.takes.at number rest reports));
    }

pub returns-in-Some-Err-clause-steps : goal.returns-in-Some-Err-clause-steps
returns-in-Some-Err-clause-steps g c =
    record {
      at = λ number rest reports. let fault = item_last number rest reports _ _ _ (rw c.in-Some-Err.field-0-is at c.in-Some-Err.ensures.steps) in
          let lookahead = c.take-in-None-last_character.ensures in
          rw (sym c.take.ensures.value ∙ c.in_default.is, c.take.ensures.after, lookahead.value, lookahead.after) (skip_to_front _ _ _ _ _ _ (sym c.replacement.ensures ∙ c.in-None-replacement.is) fault (c.in-None-last_character.ensures.takes.at number rest reports));
    }

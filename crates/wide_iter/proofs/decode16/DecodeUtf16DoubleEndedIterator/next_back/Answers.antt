use Rattle.wide_forms.specs.EncodingForm.{Utf16}
use Rattle.wide_iter.proofs.Steps.{none_left, last_char, last_pair, last_no_low, last_at_front, last_apart}
use Rattle.wide_iter.proofs.Hands.{put_back}
use Rattle.wide_iter.proofs.decode16.DecodeUtf16DoubleEndedIterator.next_back.Goals as goal

pub returns-in_err-last-clause-steps : goal.returns-in_err-last-clause-steps
returns-in_err-last-clause-steps g c = record { at = λ rest reports. let end = c.in_err-last.ensures.steps.at rest reports in rw c.from_residual.ensures (none_left Utf16 _ _ end.0 end.1) }

pub returns-in-Some-clause-steps : goal.returns-in-Some-clause-steps
returns-in-Some-clause-steps g c = record { at = λ rest reports. last_char Utf16 _ _ _ _ (c.in_ok-last.ensures.steps.at rest reports) c.in-Some.ensures }

pub returns-then-not-is_low-clause-steps : goal.returns-then-not-is_low-clause-steps
returns-then-not-is_low-clause-steps g c =
    record { at = λ rest reports. last_no_low Utf16 _ _ _ _ (c.in_ok-last.ensures.steps.at rest reports) c.in_default.ensures (λ h. let f = c.if-not-is_low.ensures.1 h in cc) c.new.ensures }

pub returns-in_default-take_back-clause-steps : goal.returns-in_default-take_back-clause-steps
returns-in_default-take_back-clause-steps g c =
    record { at = λ rest reports. let end = c.in_default-take_back.ensures.steps.at rest reports in last_at_front Utf16 _ _ _ _ _ (c.in_ok-last.ensures.steps.at rest reports) end.0 end.1 c.in_default.ensures c.new-in_default-take_back.ensures }

pub returns-in-Some-pair_scalar-clause-steps : goal.returns-in-Some-pair_scalar-clause-steps
returns-in-Some-pair_scalar-clause-steps g c =
    record { at = λ rest reports. last_pair Utf16 _ _ _ _ _ _ (c.in_ok-last.ensures.steps.at rest reports) (c.in-Some-take_back.ensures.steps.at rest reports) c.in-Some-pair_scalar.ensures }

pub returns-clause-steps : goal.returns-clause-steps
returns-clause-steps g c =
    record {
      at = λ rest reports. last_apart Utf16 _ _ _ _ _ _ _ (c.in_ok-last.ensures.steps.at rest reports) (c.in-Some-take_back.ensures.steps.at rest reports)
          (put_back rest c.take_back-2.new.self c.in-Some-take_back.before c.take_back-2.ensures.lookahead) c.in_default.ensures c.in_default-pair_scalar.ensures c.new-2.ensures;
    }

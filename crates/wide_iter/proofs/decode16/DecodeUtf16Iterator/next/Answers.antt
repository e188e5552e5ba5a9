use Rattle.wide_forms.specs.EncodingForm.{Utf16}
use Rattle.wide_iter.proofs.Steps.{none_left, first_char, first_pair, first_no_high, first_at_end, first_apart}
use Rattle.wide_iter.proofs.Hands.{put_front}
use Rattle.wide_iter.proofs.decode16.DecodeUtf16Iterator.next.Goals as goal

pub returns-in_err-first-clause-steps : goal.returns-in_err-first-clause-steps
returns-in_err-first-clause-steps g c = record { at = λ rest reports. let end = c.in_err-first.ensures.steps.at rest reports in rw c.from_residual.ensures (none_left Utf16 _ _ end.0 end.1) }

pub returns-in-Some-clause-steps : goal.returns-in-Some-clause-steps
returns-in-Some-clause-steps g c = record { at = λ rest reports. first_char Utf16 _ _ _ _ (c.in_ok-first.ensures.steps.at rest reports) c.in-Some.ensures }

pub returns-then-not-is_high-clause-steps : goal.returns-then-not-is_high-clause-steps
returns-then-not-is_high-clause-steps g c =
    record { at = λ rest reports. first_no_high Utf16 _ _ _ _ (c.in_ok-first.ensures.steps.at rest reports) c.in_default.ensures (λ h. let f = c.if-not-is_high.ensures.1 h in cc) c.new.ensures }

pub returns-in_default-take_front-clause-steps : goal.returns-in_default-take_front-clause-steps
returns-in_default-take_front-clause-steps g c =
    record { at = λ rest reports. let end = c.in_default-take_front.ensures.steps.at rest reports in first_at_end Utf16 _ _ _ _ _ (c.in_ok-first.ensures.steps.at rest reports) end.0 end.1 c.in_default.ensures c.new-in_default-take_front.ensures }

pub returns-in-Some-pair_scalar-clause-steps : goal.returns-in-Some-pair_scalar-clause-steps
returns-in-Some-pair_scalar-clause-steps g c =
    record { at = λ rest reports. first_pair Utf16 _ _ _ _ _ _ (c.in_ok-first.ensures.steps.at rest reports) (c.in-Some-take_front.ensures.steps.at rest reports) c.in-Some-pair_scalar.ensures }

pub returns-clause-steps : goal.returns-clause-steps
returns-clause-steps g c =
    record {
      at = λ rest reports. first_apart Utf16 _ _ _ _ _ _ _ (c.in_ok-first.ensures.steps.at rest reports) (c.in-Some-take_front.ensures.steps.at rest reports)
          (put_front rest c.take_front-2.new.self c.in-Some-take_front.second c.take_front-2.ensures.lookahead) c.in_default.ensures c.in_default-pair_scalar.ensures c.new-2.ensures;
    }

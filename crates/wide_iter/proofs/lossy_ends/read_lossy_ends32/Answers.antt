use Rattle.std.proofs.Common.{rules, ◌≡◌, ◌∷◌, ◌++◌, [], ap, ◌∙◌}
use Rattle.wide_forms.specs.EncodingForm.{Utf32}
use Rattle.wide_forms.specs.Items.{items}
use Rattle.wide_forms.specs.Lossy.{lossy_by}
use Rattle.wide_iter.specs.LossyDecoders.{lossy32_with_left}
use Rattle.wide_iter.proofs.Turns.{turn_front, turn_back, read_no_chars, read_all_chars}
use Rattle.wide_iter.specs.Sources.{copied_rest}
use Rattle.wide_iter.proofs.Sources.{copied_gives_first, copied_gives_last}
use Rattle.wide_iter.proofs.lossy_ends.read_lossy_ends32.Goals as goal
use Rattle.wide_iter.proofs.lossy_ends.read_lossy_ends32.Goals.{in-Front, in-Back}

pub loop-end-preserved : goal.loop-end-preserved
loop-end-preserved g c =
    let pushed : c.push.new.self.items ≡ c.loop-end.given.items ++ c.match-end.answer ∷ [] = search rules in
    elim c.match-end.branch [
      | in-Front w ↦
          rw w.decoder-is (turn_front _ (λ x. x) _ _ _ _ w.next-answer.result _ _ c.loop-end.invariant c.loop-end-test.true (rw w.answer-is at pushed) _ w.in-Front.is (w.next-answer.ensures.steps.at copied_rest copied_gives_first))
      | in-Back w ↦
          rw w.decoder-is (turn_back _ (λ x. x) _ _ _ _ w.next_back-answer.result _ _ c.loop-end.invariant c.loop-end-test.true (rw w.answer-is at pushed) _ w.in-Back.is (w.next_back-answer.ensures.steps.at copied_rest copied_gives_last))
    ]

pub loop-end-init : goal.loop-end-init
loop-end-init g c =
    let made = c.decode_utf32_lossy_with-decoder.ensures in
    let left : lossy32_with_left copied_rest c.decode_utf32_lossy_with-decoder.result ≡ lossy_by c.args.policy (items Utf32 c.args.units.now) = made.items copied_rest ∙ ap (λ us. lossy_by c.args.policy (items Utf32 us)) (search rules) in
    read_no_chars _ _ _ _ (search rules) left

pub returns-clause-answers : goal.returns-clause-answers
returns-clause-answers g c = read_all_chars _ _ _ _ _ c.loop-end-test.false c.loop-end.invariant

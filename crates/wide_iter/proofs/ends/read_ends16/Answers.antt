use Rattle.std.proofs.Common.{rules, ◌≡◌, ◌∷◌, ◌++◌, ◌∙◌, [], ap}
use Rattle.wide_forms.specs.EncodingForm.{Utf16}
use Rattle.wide_forms.specs.Items.{items}
use Rattle.wide_unit.specs.Unit.{reported_item}
use Rattle.wide_iter.specs.Decoder16.{items_left}
use Rattle.wide_iter.proofs.Turns.{turn_front, turn_back, read_none, read_all}
use Rattle.wide_iter.specs.Sources.{copied_rest}
use Rattle.wide_iter.proofs.Sources.{copied_gives_first, copied_gives_last}
use Rattle.wide_iter.proofs.ends.read_ends16.Goals as goal
use Rattle.wide_iter.proofs.ends.read_ends16.Goals.{in-Front, in-Back}

pub loop-end-preserved : goal.loop-end-preserved
loop-end-preserved g c =
    let all = items Utf16 c.args.units.now in
    let left = items_left copied_rest c.loop-end.decoder in
    let pushed : c.push.new.self.items ≡ c.loop-end.given.items ++ c.match-end.answer ∷ [] = search rules in
    elim c.match-end.branch [
      | in-Front w ↦
          rw w.decoder-is (turn_front all reported_item c.args.ends.now c.loop-end.end-index c.loop-end.given.items c.push.new.self.items w.next-answer.result left (items_left copied_rest w.next-answer.new.self) c.loop-end.invariant c.loop-end-test.true (rw w.answer-is at pushed) _ w.in-Front.is (w.next-answer.ensures.steps.at copied_rest copied_gives_first))
      | in-Back w ↦
          rw w.decoder-is (turn_back all reported_item c.args.ends.now c.loop-end.end-index c.loop-end.given.items c.push.new.self.items w.next_back-answer.result left (items_left copied_rest w.next_back-answer.new.self) c.loop-end.invariant c.loop-end-test.true (rw w.answer-is at pushed) _ w.in-Back.is (w.next_back-answer.ensures.steps.at copied_rest copied_gives_last))
    ]

pub loop-end-init : goal.loop-end-init
loop-end-init g c =
    let left : items_left copied_rest c.decode_utf16-decoder.result ≡ items Utf16 c.args.units.now = c.decode_utf16-decoder.ensures.items copied_rest ∙ ap (items Utf16) (search rules) in
    read_none _ reported_item _ _ _ (search rules) left

pub returns-clause-answers : goal.returns-clause-answers
returns-clause-answers g c = read_all _ reported_item _ _ _ _ c.loop-end-test.false c.loop-end.invariant

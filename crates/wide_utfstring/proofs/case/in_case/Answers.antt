use Rattle.std.proofs.Common.{ap, ◌∙◌, arith}
use Rattle.std.proofs.lemmas.Grind.{common_steps}
use Rattle.wide_forms.specs.Items.{characters}
use Rattle.wide_forms.specs.Offsets.{text_of}
use Rattle.wide_unit.proofs.Front.{first_of_nil}
use Rattle.wide_utfstr.specs.Iter.{chars_left}
use Rattle.wide_utfstr.specs.View.{text_seen}
use Rattle.wide_utfstring.specs.Case.{mapping}
use Rattle.wide_utfstring.proofs.Cased.{casing-none, casing-some}
use Rattle.wide_utfstring.proofs.case.in_case.Goals as goal

pub loop-c-init : goal.loop-c-init
loop-c-init g c =
    let form = g.C.Unit.form in
    let number = g.C.Unit.number in
    casing-none (mapping c.args.case) (text_seen c.args.text) (text_of form number c.in_ok-string.string.units) (chars_left form number c.into_iter-c-iterator.result)
    (ap characters (first_of_nil form number c.in_ok-string.string.units c.in_ok-string.ensures.units))
    (ap (chars_left form number) c.into_iter-c-iterator.ensures.into_iter_gives ∙ c.chars-c-items.ensures.characters)

pub returns-in_err-push_letters-clause-empty : goal.returns-in_err-push_letters-clause-empty
returns-in_err-push_letters-clause-empty g c = λ empty.
    let form = g.C.Unit.form in
    let number = g.C.Unit.number in
    absurd (casing-some (mapping c.args.case) (text_seen c.args.text) (text_of form number c.loop-c.string.units) (chars_left form number c.loop-c.c-iterator) (chars_left form number c.next.new.self) c.in-Some.c c.loop-c.invariant c.in-Some.ensures.steps
    (ap characters (first_of_nil form number c.args.text.units.now empty)))

pub loop-c-preserved : goal.loop-c-preserved
loop-c-preserved g c = grind (arith, common_steps)

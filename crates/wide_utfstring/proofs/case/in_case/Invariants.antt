use Rattle.wide_forms.specs.Offsets.{text_of}
use Rattle.wide_utfstr.specs.Iter.{chars_left}
use Rattle.wide_utfstr.specs.View.{text_seen}
use Rattle.wide_utfstring.specs.Case.{mapping}
use Rattle.wide_utfstring.proofs.Cased.{IsCasing}
use Rattle.wide_utfstring.proofs.case.in_case.Given as goal

abbrev pub invariant-loop-c : goal.invariant-loop-c
invariant-loop-c g l =
    let form = g.C.Unit.form in
    let number = g.C.Unit.number in
    IsCasing (mapping l.fn.case) (text_seen l.fn.text) (text_of form number l.string.units) (chars_left form number l.c-iterator)

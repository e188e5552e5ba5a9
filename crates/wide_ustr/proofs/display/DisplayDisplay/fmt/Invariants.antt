use Rattle.std.proofs.Common.{map}
use Rattle.std.specs.Fmt.{IsFlush}
use Rattle.wide_forms.specs.Texts.{display_text}
use Rattle.wide_forms.specs.Utf8.{utf8}
use Rattle.wide_unit.proofs.Printed.{HasPrintedStyled}
use Rattle.wide_ustr.specs.Iter.{lossy_left}
use Rattle.wide_ustr.proofs.display.DisplayDisplay.fmt.Given as goal

abbrev pub invariant-loop-c : goal.invariant-loop-c
invariant-loop-c g l =
    IsFlush l.initial.f
    → HasPrintedStyled g.W.Write.write_str_gives l.initial.f (display_text g.C.Unit.form (map g.C.Unit.number l.fn.self.view.units.now)) (utf8 (lossy_left g.C.Unit.form g.C.Unit.number l.c-iterator)) l.f

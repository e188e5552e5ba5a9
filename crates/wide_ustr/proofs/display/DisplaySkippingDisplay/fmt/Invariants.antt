use Rattle.std.proofs.Common.{map}
use Rattle.std.specs.Fmt.{IsFlush}
use Rattle.std.specs.List.{filter}
use Rattle.wide_forms.specs.Texts.{is_kept, skipping_text}
use Rattle.wide_forms.specs.Utf8.{utf8}
use Rattle.wide_unit.proofs.Printed.{HasPrintedStyled}
use Rattle.wide_ustr.specs.Iter.{lossy_left}
use Rattle.wide_ustr.proofs.display.DisplaySkippingDisplay.fmt.Given as goal

abbrev pub invariant-loop-shown : goal.invariant-loop-shown
invariant-loop-shown g l =
    IsFlush l.initial.f
    → HasPrintedStyled g.W.Write.write_str_gives l.initial.f (skipping_text g.C.Unit.form (map g.C.Unit.number l.fn.self.view.units.now)) (utf8 (filter is_kept (lossy_left g.C.Unit.form g.C.Unit.number l.shown-iterator))) l.f

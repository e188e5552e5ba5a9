use Rattle.std.proofs.Common.{map}
use Rattle.wide_forms.specs.Segmentation.{Char}
use Rattle.wide_unit.proofs.Debugged.{HasQuoted}
use Rattle.wide_ustr.specs.LossyWith.{lossy_with_left}
use Rattle.wide_ustr.proofs.display.CharsLossyWithDebug.fmt.Given as goal

abbrev pub invariant-loop-c : goal.invariant-loop-c
invariant-loop-c g l =
    let left = lossy_with_left g.C.Unit.form g.C.Unit.number in
    HasQuoted g.W.Write.write_str_gives l.fn.f (map Char (left l.fn.self)) (map Char (left l.c-iterator)) l.f

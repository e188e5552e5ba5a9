use Rattle.std.proofs.Common.{map, ap, refl, true, subst}
use Rattle.std.specs.Fmt.{HasWritten}
use Rattle.wide_forms.specs.Segmentation.{Char}
use Rattle.wide_unit.proofs.Debugged.{quoted-more, quoted-all, escape-bytes}
use Rattle.wide_unit.proofs.Printed.{plain-of_styled}
use Rattle.wide_ustr.specs.LossyWith.{lossy_with_left}
use Rattle.wide_ustr.proofs.display.CharsLossyWithDebug.fmt.Goals as goal

pub loop-c-preserved : goal.loop-c-preserved
loop-c-preserved g c =
    let rest = map Char (lossy_with_left g.C.Unit.form g.C.Unit.number c.next.new.self) in
    let wrote = c.in_ok-write_debug_char.ensures in
    quoted-more (Char c.in-Some.c) rest c.loop-c.invariant (ap (λ cs. map Char cs) c.in-Some.ensures.steps)
    (λ ascii plain. subst (λ bs. HasWritten g.W.Write.write_str_gives c.loop-c.f bs c.write_debug_char.new.f) (escape-bytes c.in-Some.c wrote.0 ascii wrote.1) (plain-of_styled plain (wrote.2 plain.flush (refl {a = true}))))

pub returns : goal.returns
returns g c = record { writes = quoted-all c.write_str-2.result c.loop-c.invariant (ap (λ cs. map Char cs) c.in-None.ensures.steps.0) c.write_str-2.ensures.writes }

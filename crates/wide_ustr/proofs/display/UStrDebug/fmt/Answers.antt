use Rattle.std.proofs.Common.{◌∷◌, map, ap, ◌∙◌, refl, true, subst, rules}
use Rattle.std.specs.Fmt.{HasWritten}
use Rattle.wide_forms.specs.Segmentation.{Char, Fault}
use Rattle.wide_forms.specs.Items.{items}
use Rattle.wide_unit.specs.Unit.{item_of}
use Rattle.wide_unit.proofs.Debugged.{quoted-more, quoted-all, escape-bytes}
use Rattle.wide_unit.proofs.Printed.{plain-of_styled}
use Rattle.wide_ustr.proofs.display.UStrDebug.fmt.Goals as goal

pub loop-item-preserved-in_ok-write_debug_char-in-Ok : goal.loop-item-preserved-in_ok-write_debug_char-in-Ok
loop-item-preserved-in_ok-write_debug_char-in-Ok g c =
    let number = g.C.Unit.number in
    let tail = items g.C.Unit.form (map number c.in-Some.tail.now) in
    let wrote = c.in_ok-write_debug_char-in-Ok.ensures in
    quoted-more (Char c.in-Ok.c) tail c.loop-item.invariant (c.in-Some.ensures.some ∙ ap (λ r. item_of number r ∷ tail) c.in-Ok.is)
    (λ ascii plain. subst (λ bs. HasWritten g.W.Write.write_str_gives c.loop-item.f bs c.write_debug_char.new.f) (escape-bytes c.in-Ok.c wrote.0 ascii wrote.1) (plain-of_styled plain (wrote.2 plain.flush (refl {a = true}))))

pub loop-item-preserved : goal.loop-item-preserved
loop-item-preserved g c =
    let number = g.C.Unit.number in
    let tail = items g.C.Unit.form (map number c.in-Some.tail.now) in
    quoted-more (Fault (number c.in-Err.unit)) tail c.loop-item.invariant (c.in-Some.ensures.some ∙ ap (λ r. item_of number r ∷ tail) c.in-Err.is)
    (λ _ plain. search rules)

pub returns : goal.returns
returns g c = record { writes = quoted-all c.write_str-2.result c.loop-item.invariant c.in_default.ensures.no_items c.write_str-2.ensures.writes }

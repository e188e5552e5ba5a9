use Rattle.std.proofs.Common.{◌≡◌, subst, ap, sym, ◌∙◌}
use Rattle.std.specs.Prelude.{length}
use Rattle.std.proofs.lemmas.List.{take-map}
use Rattle.wide_forms.specs.Items.{IsWellFormed, chars}
use Rattle.wide_forms.specs.Offsets.{text_before}
use Rattle.wide_unit.proofs.Faults.{first_fault-prefix}
use Rattle.wide_unit.proofs.validation.check.Goals as goal

pub char_count-item-requires : goal.char_count-item-requires
char_count-item-requires g c =
    subst (IsWellFormed g.C.Unit.form) (take-map g.C.Unit.number c.in-Some.found.0 c.args.units.now) (first_fault-prefix _ _ _ _ _ c.in-Some.ensures.some)

pub returns-clause-err : goal.returns-clause-err
returns-clause-err g c =
    let form = g.C.Unit.form in
    let number = g.C.Unit.number in
    let counted : c.char_count-item.result ≡ text_before form number c.args.units.now c.in-Some.found.0 = c.char_count-item.ensures ∙ ap (λ us. length (chars form us)) (sym (take-map number c.in-Some.found.0 c.args.units.now)) in
    rw counted c.in-Some.ensures.some

use Rattle.std.proofs.Common.{◌-◌, ap, subst, sym, ◌∙◌, length, map, take}
use Rattle.std.proofs.lemmas.List.{drop-map, map-append}
use Rattle.wide_forms.specs.EncodingForm.{code_units}
use Rattle.wide_forms.specs.Items.{items}
use Rattle.widestring_c.specs.Parts.{IsPart}
use Rattle.widestring_c.proofs.Converted.{joined-beyond, part-joined}
use Rattle.widestring_c.proofs.parts.put_unit_part.Goals as goal

pub returns-clause-part : goal.returns-clause-part
returns-clause-part g c =
    let runs = c.put_unit_runs-runs in
    let last = c.put_unit_characters-last in
    let part = subst (λ xs. IsPart (items g.C.Unit.form) (code_units g.C.Unit.form) (code_units g.D.Unit.form) xs last.result.read (map g.D.Unit.number (take last.result.written last.new.out)) (length last.new.out - last.result.written)) (ap (map g.C.Unit.number) c.split_at.ensures.back ∙ sym (drop-map g.C.Unit.number runs.result.read c.args.units.now)) last.ensures.part in
    part-joined (items g.C.Unit.form) (code_units g.C.Unit.form) (code_units g.D.Unit.form) (map g.C.Unit.number c.args.units.now) (map g.D.Unit.number) (map-append g.D.Unit.number) runs.result.read last.result.read runs.result.written last.result.written runs.new.out c.split_at_mut.result.0.now last.new.out c.split_at_mut.ensures.front runs.ensures.within runs.ensures.converts part

pub returns-clause-beyond : goal.returns-clause-beyond
returns-clause-beyond g c =
    let runs = c.put_unit_runs-runs in
    let last = c.put_unit_characters-last in
    joined-beyond runs.result.written last.result.written c.args.out.now runs.new.out c.split_at_mut.result.0.now c.split_at_mut.result.1.now last.new.out c.split_at_mut.ensures.front runs.ensures.within c.split_at_mut.ensures.back runs.ensures.beyond last.ensures.beyond

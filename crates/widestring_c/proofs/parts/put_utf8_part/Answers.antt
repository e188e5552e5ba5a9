use Rattle.std.proofs.Common.{◌-◌, refl, ap, subst, sym, ◌∙◌, length, map, take}
use Rattle.std.proofs.lemmas.List.{drop-map}
use Rattle.wide_forms.specs.EncodingForm.{code_units}
use Rattle.wide_forms.specs.Items.{items}
use Rattle.wide_forms.specs.Utf8.{utf8_bytes}
use Rattle.widestring_c.specs.Parts.{IsPart}
use Rattle.widestring_c.proofs.Converted.{joined-beyond, part-joined}
use Rattle.widestring_c.proofs.parts.put_utf8_part.Goals as goal

pub returns-clause-part : goal.returns-clause-part
returns-clause-part g c =
    let runs = c.put_utf8_runs-runs in
    let last = c.put_utf8_characters-last in
    let part = subst (λ xs. IsPart (items g.C.Unit.form) (code_units g.C.Unit.form) (utf8_bytes) xs last.result.read (take last.result.written last.new.text) (length last.new.text - last.result.written)) (ap (map g.C.Unit.number) c.split_at.ensures.back ∙ sym (drop-map g.C.Unit.number runs.result.read c.args.units.now)) last.ensures.part in
    part-joined (items g.C.Unit.form) (code_units g.C.Unit.form) (utf8_bytes) (map g.C.Unit.number c.args.units.now) (λ bs. bs) (λ a b. refl) runs.result.read last.result.read runs.result.written last.result.written runs.new.text c.split_at_mut.result.0.now last.new.text c.split_at_mut.ensures.front runs.ensures.within runs.ensures.converts part

pub returns-clause-beyond : goal.returns-clause-beyond
returns-clause-beyond g c =
    let runs = c.put_utf8_runs-runs in
    let last = c.put_utf8_characters-last in
    joined-beyond runs.result.written last.result.written c.args.text.now runs.new.text c.split_at_mut.result.0.now c.split_at_mut.result.1.now last.new.text c.split_at_mut.ensures.front runs.ensures.within c.split_at_mut.ensures.back runs.ensures.beyond last.ensures.beyond

use Rattle.std.proofs.Common.{◌-◌, subst, length, map, take}
use Rattle.std.proofs.lemmas.List.{map-append}
use Rattle.wide_forms.specs.EncodingForm.{code_units}
use Rattle.wide_forms.specs.Utf8.{utf8_bytes}
use Rattle.wide_conversions.specs.Utf8Items.{utf8_items}
use Rattle.widestring_c.specs.Parts.{IsPart}
use Rattle.widestring_c.proofs.Converted.{joined-beyond, part-joined}
use Rattle.widestring_c.proofs.parts.put_decoded_part.Goals as goal

pub returns-clause-part : goal.returns-clause-part
returns-clause-part g c =
    let runs = c.put_decoded_runs-runs in
    let last = c.put_decoded_characters-last in
    let part = subst (λ xs. IsPart (utf8_items) (utf8_bytes) (code_units g.D.Unit.form) xs last.result.read (map g.D.Unit.number (take last.result.written last.new.units)) (length last.new.units - last.result.written)) (c.split_at.ensures.back) last.ensures.part in
    part-joined (utf8_items) (utf8_bytes) (code_units g.D.Unit.form) (c.args.text.now) (map g.D.Unit.number) (map-append g.D.Unit.number) runs.result.read last.result.read runs.result.written last.result.written runs.new.units c.split_at_mut.result.0.now last.new.units c.split_at_mut.ensures.front runs.ensures.within runs.ensures.converts part

pub returns-clause-beyond : goal.returns-clause-beyond
returns-clause-beyond g c =
    let runs = c.put_decoded_runs-runs in
    let last = c.put_decoded_characters-last in
    joined-beyond runs.result.written last.result.written c.args.units.now runs.new.units c.split_at_mut.result.0.now c.split_at_mut.result.1.now last.new.units c.split_at_mut.ensures.front runs.ensures.within c.split_at_mut.ensures.back runs.ensures.beyond last.ensures.beyond

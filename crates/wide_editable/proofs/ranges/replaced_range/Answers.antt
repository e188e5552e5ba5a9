use Rattle.wide_forms.specs.EncodingForm.{Utf16}
use Rattle.wide_forms.specs.Items.{chars}
use Rattle.wide_editable.proofs.Replaced.{replaced-insert, replaced-insert_str, replaced-replace, stated-count}
use Rattle.wide_editable.proofs.ranges.replaced_range.Goals as goal

pub returns-in-Insert-clause-replaces : goal.returns-in-Insert-clause-replaces
returns-in-Insert-clause-replaces c =
    let l = chars Utf16 c.args.string.now.units in
    let r = c.range_or_end.result in
    let found = c.range_or_end.ensures.found in
    rw c.in-Insert.is (replaced-insert l r.from r.to found.forward found.within c.in-Insert.at c.in-Insert.field-1 (stated-count l c.in-Insert.at c.in-Insert.at r.from r.to c.args.count c.requires.count c.range_or_end.ensures.numbers))

pub returns-in-InsertStr-clause-replaces : goal.returns-in-InsertStr-clause-replaces
returns-in-InsertStr-clause-replaces c =
    let l = chars Utf16 c.args.string.now.units in
    let r = c.range_or_end-in-InsertStr.result in
    let found = c.range_or_end-in-InsertStr.ensures.found in
    rw c.in-InsertStr.is
    (replaced-insert_str l r.from r.to found.forward found.within c.in-InsertStr.at c.in-InsertStr.field-1 (stated-count l c.in-InsertStr.at c.in-InsertStr.at r.from r.to c.args.count c.requires.count c.range_or_end-in-InsertStr.ensures.numbers))

pub returns-in-Replace-clause-replaces : goal.returns-in-Replace-clause-replaces
returns-in-Replace-clause-replaces c =
    let l = chars Utf16 c.args.string.now.units in
    let r = c.range_or_end-in-Replace.result in
    let found = c.range_or_end-in-Replace.ensures.found in
    rw c.in-Replace.is
    (replaced-replace l r.from r.to found.forward found.within c.in-Replace.from c.in-Replace.to c.in-Replace.field-2 (stated-count l c.in-Replace.from c.in-Replace.to r.from r.to c.args.count c.requires.count c.range_or_end-in-Replace.ensures.numbers))

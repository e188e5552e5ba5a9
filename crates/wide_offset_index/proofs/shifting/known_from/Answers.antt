use Rattle.std.proofs.Common.{refl, ◌≡◌, ◌+◌, ◌-◌, ◌*◌, ap, arith, length}
use Rattle.std.proofs.lemmas.List.{take_all}
use Rattle.wide_forms.specs.EncodingForm.{Utf16}
use Rattle.wide_forms.specs.Items.{chars}
use Rattle.wide_utfstr.specs.View.{units_seen}
use Rattle.wide_offset_index.specs.Marks.{offset}
use Rattle.wide_offset_index.proofs.Lengths.{size, size-take}
use Rattle.wide_offset_index.proofs.Marking.{well-formed, whole-size}
use Rattle.wide_offset_index.proofs.shifting.known_from.Goals as goal

pub overflow_sub-result : goal.overflow_sub-result
overflow_sub-result c =
    let cs = chars Utf16 (units_seen c.args.text) in
    let there = c.requires.moved c.args.number (omega arith) c.if-number-entries.true in
    omega (arith, there, size-take Utf16 cs (length cs + 64 * (c.args.number + 1) - c.args.count))

pub overflow_sub-result-then-number-entries : goal.overflow_sub-result-then-number-entries
overflow_sub-result-then-number-entries c =
    let us = units_seen c.args.text in
    let there = c.requires.moved c.args.number (omega arith) c.if-number-entries.true in
    omega (arith, there, c.len-len.ensures, whole-size us (well-formed us c.args.text.well_formed))

pub returns-then-number-entries-clause-offset : goal.returns-then-number-entries-clause-offset
returns-then-number-entries-clause-offset c =
    let us = units_seen c.args.text in
    let cs = chars Utf16 us in
    let there = c.requires.moved c.args.number (omega arith) c.if-number-entries.true in
    let index : c.args.total - (c.args.count - 64 * (c.args.number + 1)) ≡ length cs + 64 * (c.args.number + 1) - c.args.count = omega (arith, c.requires.total, c.requires.old, c.requires.less, c.if-number-entries.true) in
    omega (arith, there, ap (offset cs) index, c.len-len.ensures, whole-size us (well-formed us c.args.text.well_formed), size-take Utf16 cs (length cs + 64 * (c.args.number + 1) - c.args.count))

pub returns-clause-offset : goal.returns-clause-offset
returns-clause-offset c =
    let us = units_seen c.args.text in
    let cs = chars Utf16 us in
    omega (arith, c.len-len.ensures, whole-size us (well-formed us c.args.text.well_formed), ap (size Utf16) (take_all c.args.total cs (omega (arith, c.requires.total))))

pub returns-then-number-entries-clause-index : goal.returns-then-number-entries-clause-index
returns-then-number-entries-clause-index c = λ _. omega (arith, c.requires.old, c.requires.less, c.if-number-entries.true)

pub returns-then-number-entries-clause-end : goal.returns-then-number-entries-clause-end
returns-then-number-entries-clause-end c = λ past. absurd (omega (arith, past, c.if-number-entries.true))

pub returns-then-number-entries-clause-least : goal.returns-then-number-entries-clause-least
returns-then-number-entries-clause-least c = omega (arith, c.requires.old, c.requires.less, c.if-number-entries.true)

pub returns-then-number-entries-clause-most : goal.returns-then-number-entries-clause-most
returns-then-number-entries-clause-most c = omega (arith, c.requires.less)

pub returns-clause-index : goal.returns-clause-index
returns-clause-index c = λ below. absurd (omega (arith, below, c.if-number-entries.false))

pub returns-clause-end : goal.returns-clause-end
returns-clause-end c = λ _. refl

pub returns-clause-least : goal.returns-clause-least
returns-clause-least c = omega (arith, c.requires.within, c.requires.new)

pub returns-clause-most : goal.returns-clause-most
returns-clause-most c = omega (arith, c.requires.within)

use Rattle.std.proofs.Common.{◌≡◌, ◌+◌, ap, ◌∙◌, arith}
use Rattle.wide_forms.specs.EncodingForm.{Utf16}
use Rattle.wide_forms.specs.Items.{chars}
use Rattle.wide_forms.specs.Laws.Offsets.{offset-IsOffsetOf}
use Rattle.wide_offset_index.specs.Marks.{offset}
use Rattle.wide_offset_index.proofs.Marking.{well-formed}
use Rattle.wide_offset_index.proofs.Neighbors.{apart}
use Rattle.wide_offset_index.proofs.Offsets.{found_some}
use Rattle.wide_offset_index.proofs.Substrings.{stated}
use Rattle.wide_editable.proofs.ranges.char_or_end.Goals as goal

pub returns-in-Some-clause-found : goal.returns-in-Some-clause-found
returns-in-Some-clause-found c =
    let us = c.args.string.now.units in
    let well = well-formed us c.string_facts.ensures.well_formed in
    let found = found_some Utf16 us c.args.index c.args.start c.in-Some.start c.requires.start c.in-Some.is in
    let starts = offset-IsOffsetOf Utf16 us well c.args.index c.in-Some.start found.offset in
    let ends : c.pass_on.result ≡ offset (chars Utf16 us) (c.args.index + 1) = c.pass_on.ensures.offset ∙ ap (λ vs. offset (chars Utf16 vs) (c.args.index + 1)) c.as_utfstr.ensures in
    stated us well c.args.index (c.args.index + 1) c.in-Some.start c.pass_on.result (omega arith) starts ends (omega (arith, c.requires.count, c.if-index-count.true))

pub returns-in-Some-clause-steps : goal.returns-in-Some-clause-steps
returns-in-Some-clause-steps c =
    let us = c.args.string.now.units in
    let well = well-formed us c.string_facts.ensures.well_formed in
    let found = found_some Utf16 us c.args.index c.args.start c.in-Some.start c.requires.start c.in-Some.is in
    let starts = offset-IsOffsetOf Utf16 us well c.args.index c.in-Some.start found.offset in
    let ends : c.pass_on.result ≡ offset (chars Utf16 us) (c.args.index + 1) = c.pass_on.ensures.offset ∙ ap (λ vs. offset (chars Utf16 vs) (c.args.index + 1)) c.as_utfstr.ensures in
    let far = apart (chars Utf16 us) c.args.index (c.args.index + 1) (omega arith) (omega (arith, c.requires.count, c.if-index-count.true)) in
    omega (arith, starts, ends, far.least, far.most, c.pass_on.ensures.steps)

pub returns-in-Some-clause-read : goal.returns-in-Some-clause-read
returns-in-Some-clause-read c =
    let us = c.args.string.now.units in
    let well = well-formed us c.string_facts.ensures.well_formed in
    let found = found_some Utf16 us c.args.index c.args.start c.in-Some.start c.requires.start c.in-Some.is in
    let starts = offset-IsOffsetOf Utf16 us well c.args.index c.in-Some.start found.offset in
    let ends : c.pass_on.result ≡ offset (chars Utf16 us) (c.args.index + 1) = c.pass_on.ensures.offset ∙ ap (λ vs. offset (chars Utf16 vs) (c.args.index + 1)) c.as_utfstr.ensures in
    let far = apart (chars Utf16 us) c.args.index (c.args.index + 1) (omega arith) (omega (arith, c.requires.count, c.if-index-count.true)) in
    omega (arith, starts, ends, far.least, c.pass_on.ensures.steps)

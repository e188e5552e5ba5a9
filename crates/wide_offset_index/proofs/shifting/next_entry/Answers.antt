use Rattle.std.proofs.Common.{◌+◌, ◌*◌, arith}
use Rattle.wide_forms.specs.EncodingForm.{Utf16}
use Rattle.wide_forms.specs.Items.{chars}
use Rattle.wide_forms.specs.Laws.Encodings.{offsets-grow}
use Rattle.wide_utfstr.specs.View.{units_seen}
use Rattle.wide_offset_index.proofs.shifting.next_entry.Goals as goal

pub returns-then-number-range-clause-grows : goal.returns-then-number-range-clause-grows
returns-then-number-range-clause-grows c =
    let further = offsets-grow Utf16 (chars Utf16 (units_seen c.args.text)) c.args.range.from (64 * (c.args.number + 1)) (omega (arith, c.if-number-range.true)) in
    omega (arith, further, c.requires.edited.starts, c.pass_on.ensures.offset, c.pass_on.ensures.steps)

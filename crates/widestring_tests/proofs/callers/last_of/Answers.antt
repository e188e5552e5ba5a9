use Rattle.std.proofs.Common.{◌≡◌, ap, ◌∙◌}
use Rattle.std.specs.Vec.Iter.{into_iter_items}
use Rattle.wide_forms.specs.Items.{items}
use Rattle.wide_forms.specs.EncodingForm.{Utf16}
use Rattle.wide_unit.specs.Unit.{reported_item}
use Rattle.wide_iter.specs.Decoder16.{items_left}
use Rattle.wide_iter.proofs.Sources.{vec_gives_last}
use Rattle.wide_iter.proofs.Runs.{last_shown}
use Rattle.widestring_tests.proofs.callers.last_of.Goals as goal

pub returns : goal.returns
returns c =
    let made = c.decode_utf16.ensures in
    let left : items_left into_iter_items c.decode_utf16.result ≡ items Utf16 c.args.units.items = made.items into_iter_items ∙ ap (items Utf16) made.source.0 in
    last_shown reported_item _ _ _ left c.next_back.result (c.next_back.ensures.steps.at into_iter_items vec_gives_last)

use Rattle.std.proofs.Common.{rules, ◌≡◌, ap, ◌∙◌}
use Rattle.std.proofs.lemmas.Iterator.Consumers.{map_from_collect}
use Rattle.wide_forms.specs.Items.{items}
use Rattle.wide_forms.specs.EncodingForm.{Utf16}
use Rattle.wide_unit.specs.Unit.{reported_item}
use Rattle.wide_iter.specs.Decoder16.{items_left}
use Rattle.wide_iter.specs.Sources.{copied_rest}
use Rattle.wide_iter.proofs.Sources.{copied_gives_first}
use Rattle.wide_iter.proofs.Runs.{YieldsList-over}
use Rattle.widestring_tests.proofs.callers.all_of.Goals as goal

pub returns : goal.returns
returns c =
    let made = c.decode_utf16.ensures in
    let left : items_left copied_rest c.decode_utf16.result ≡ items Utf16 c.args.units.now = made.items copied_rest ∙ ap (items Utf16) (search rules) in
    map_from_collect c.collect.result c.collect.ensures.ran (YieldsList-over _ _ reported_item items_left copied_rest copied_gives_first _ left)

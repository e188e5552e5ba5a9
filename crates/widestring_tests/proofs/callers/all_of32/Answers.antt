use Rattle.std.proofs.Common.{rules, ◌≡◌, ap, ◌∙◌}
use Rattle.std.proofs.lemmas.Iterator.Consumers.{map_from_collect}
use Rattle.wide_forms.specs.Items.{items}
use Rattle.wide_forms.specs.EncodingForm.{Utf32}
use Rattle.wide_unit.specs.Unit.{reported_item}
use Rattle.wide_iter.specs.Decoder32.{items32_left}
use Rattle.wide_iter.specs.Sources.{copied_rest}
use Rattle.wide_iter.proofs.Sources.{copied_gives_first}
use Rattle.wide_iter.proofs.Runs.{YieldsList-over}
use Rattle.widestring_tests.proofs.callers.all_of32.Goals as goal

pub returns : goal.returns
returns c =
    let made = c.decode_utf32.ensures in
    let left : items32_left copied_rest c.decode_utf32.result ≡ items Utf32 c.args.units.now = made.items copied_rest ∙ ap (items Utf32) (search rules) in
    map_from_collect c.collect.result c.collect.ensures.ran (YieldsList-over _ _ reported_item items32_left copied_rest copied_gives_first _ left)

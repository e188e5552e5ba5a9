use Rattle.std.proofs.Common.{◌≡◌, ap, ◌∙◌, rules}
use Rattle.std.proofs.lemmas.Iterator.Consumers.{map_from_collect}
use Rattle.wide_forms.specs.EncodingForm.{Utf16}
use Rattle.wide_forms.specs.Items.{items}
use Rattle.wide_unit.specs.Unit.{reported_item}
use Rattle.wide_iter.specs.Source.{inner_of}
use Rattle.wide_iter.specs.Decoder16.{items_left, source_of}
use Rattle.wide_iter.proofs.Runs.{YieldsList-over}
use Rattle.wide_iter.proofs.Sources.{itself_first}
use Rattle.widestring_tests.specs.Front.{prefix_rest}
use Rattle.widestring_tests.proofs.callers.all_of_prefix.Goals as goal

pub returns : goal.returns
returns c =
    let made = c.decode_utf16.ensures in
    let same : prefix_rest (inner_of (source_of c.decode_utf16.result)) ≡ prefix_rest c.args.units = search rules in
    map_from_collect c.collect.result c.collect.ensures.ran (YieldsList-over _ _ reported_item items_left prefix_rest (itself_first prefix_rest) _ (made.items prefix_rest ∙ ap (items Utf16) same))

use Rattle.std.proofs.Common.{ap, ◌∙◌, rules}
use Rattle.std.proofs.lemmas.Iterator.Consumers.{map_from_collect}
use Rattle.wide_forms.specs.EncodingForm.{Utf16}
use Rattle.wide_forms.specs.Items.{items}
use Rattle.wide_unit.specs.Unit.{reported_item}
use Rattle.wide_iter.specs.Decoder16.{items_left}
use Rattle.wide_iter.proofs.Runs.{YieldsList-over}
use Rattle.widestring_tests.proofs.callers.all_of_source.Goals as goal

pub returns : goal.returns
returns g c = λ rest reports.
    let made = c.decode_utf16.ensures in
    map_from_collect c.collect.result c.collect.ensures.ran (YieldsList-over _ _ reported_item items_left rest reports _ (made.items rest ∙ ap (λ s. items Utf16 (rest s)) (search rules)))

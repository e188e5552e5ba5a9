use Rattle.std.proofs.Common.{◌≡◌, ap, ◌∙◌}
use Rattle.std.proofs.lemmas.Iterator.{items_from_collect}
use Rattle.std.specs.Vec.Iter.{into_iter_items}
use Rattle.wide_forms.specs.EncodingForm.{Utf16}
use Rattle.wide_forms.specs.Items.{items}
use Rattle.wide_forms.specs.Lossy.{lossy}
use Rattle.wide_iter.specs.Lossy.{lossy16_left}
use Rattle.wide_iter.proofs.Sources.{vec_gives_first}
use Rattle.wide_iter.proofs.Runs.{YieldsList-over}
use Rattle.widestring_tests.proofs.callers.lossy_of16.Goals as goal

pub returns : goal.returns
returns c =
    let made = c.decode_utf16_lossy.ensures in
    let left : lossy16_left into_iter_items c.decode_utf16_lossy.result ≡ lossy (items Utf16 c.args.units.items) = made.items into_iter_items ∙ ap (λ us. lossy (items Utf16 us)) made.source.0 in
    items_from_collect c.collect.result c.collect.ensures.ran (YieldsList-over _ _ (λ x. x) lossy16_left into_iter_items vec_gives_first _ left)

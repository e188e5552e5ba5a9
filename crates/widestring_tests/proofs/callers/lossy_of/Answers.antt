use Rattle.std.proofs.Common.{◌≡◌, ap, ◌∙◌}
use Rattle.std.proofs.lemmas.Iterator.{items_from_collect}
use Rattle.wide_forms.specs.EncodingForm.{Utf16}
use Rattle.wide_forms.specs.Items.{items}
use Rattle.wide_forms.specs.Lossy.{lossy}
use Rattle.wide_iter.specs.Lossy.{lossy16_left}
use Rattle.wide_iter.proofs.Runs.{YieldsList-over}
use Rattle.widestring_tests.proofs.callers.lossy_of.Goals as goal

pub returns : goal.returns
returns g c = λ rest reports.
    let made = c.decode_utf16_lossy.ensures in
    let left : lossy16_left rest c.decode_utf16_lossy.result ≡ lossy (items Utf16 (rest c.args.units)) = made.items rest ∙ ap (λ s. lossy (items Utf16 (rest s))) made.source in
    items_from_collect c.collect.result c.collect.ensures.ran (YieldsList-over _ _ (λ x. x) lossy16_left rest reports _ left)

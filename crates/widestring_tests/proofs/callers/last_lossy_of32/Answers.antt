use Rattle.std.proofs.Common.{rules, ◌≡◌, ap, ◌∙◌}
use Rattle.wide_forms.specs.EncodingForm.{Utf32}
use Rattle.wide_forms.specs.Items.{items}
use Rattle.wide_forms.specs.Lossy.{lossy}
use Rattle.wide_iter.specs.Lossy.{lossy32_left}
use Rattle.wide_iter.specs.Sources.{copied_rest}
use Rattle.wide_iter.proofs.Sources.{copied_gives_last}
use Rattle.wide_iter.proofs.Runs.{last_shown}
use Rattle.widestring_tests.proofs.callers.last_lossy_of32.Goals as goal

pub returns : goal.returns
returns c =
    let made = c.decode_utf32_lossy.ensures in
    let left : lossy32_left copied_rest c.decode_utf32_lossy.result ≡ lossy (items Utf32 c.args.units.now) = made.items copied_rest ∙ ap (λ us. lossy (items Utf32 us)) (search rules) in
    last_shown (λ x. x) _ _ _ left c.next_back.result (c.next_back.ensures.steps.at copied_rest copied_gives_last)

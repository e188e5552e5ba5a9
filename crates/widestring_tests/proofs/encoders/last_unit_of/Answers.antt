use Rattle.std.proofs.Common.{◌≡◌, ap, ◌∙◌}
use Rattle.std.specs.Vec.Iter.{into_iter_items}
use Rattle.wide_forms.specs.EncodingForm.{Utf32, encode}
use Rattle.wide_iter.specs.Encoder32.{units_left}
use Rattle.wide_iter.proofs.Sources.{vec_gives_last}
use Rattle.wide_iter.proofs.Runs.{last_shown}
use Rattle.widestring_tests.proofs.encoders.last_unit_of.Goals as goal

pub returns : goal.returns
returns c =
    let made = c.encode_utf32.ensures in
    let left : units_left into_iter_items c.encode_utf32.result ≡ encode Utf32 c.args.letters.items = made.units into_iter_items ∙ ap (encode Utf32) made.source.0 in
    last_shown (λ u. u) _ _ _ left c.next_back.result (c.next_back.ensures.steps.at into_iter_items vec_gives_last)

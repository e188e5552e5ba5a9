use Rattle.std.proofs.Common.{rules, ◌≡◌, ap, ◌∙◌}
use Rattle.std.proofs.lemmas.Iterator.{items_from_collect}
use Rattle.std.specs.Str.{chars}
use Rattle.wide_forms.specs.EncodingForm.{Utf16, encode}
use Rattle.wide_iter.specs.Sources.{text_rest}
use Rattle.wide_iter.specs.Encoder16.{units_left}
use Rattle.wide_iter.proofs.Sources.{text_gives_first}
use Rattle.wide_iter.proofs.Runs.{YieldsList-over}
use Rattle.widestring_tests.proofs.encoders.units_of.Goals as goal

pub returns : goal.returns
returns c =
    let made = c.encode_utf16.ensures in
    let left : units_left text_rest c.encode_utf16.result ≡ encode Utf16 (chars c.args.text.now) = made.units text_rest ∙ ap (λ bs. encode Utf16 (chars bs)) (search rules) in
    items_from_collect c.collect.result c.collect.ensures.ran (YieldsList-over _ _ (λ u. u) units_left text_rest text_gives_first _ left)

use Rattle.std.proofs.Common.{rules, ◌≡◌, ap, ◌∙◌}
use Rattle.std.proofs.lemmas.Iterator.{items_from_collect}
use Rattle.wide_forms.specs.Utf8.{utf8}
use Rattle.wide_iter.specs.Sources.{copied_rest}
use Rattle.wide_iter.specs.Encoder8.{bytes_left}
use Rattle.wide_iter.proofs.Sources.{copied_gives_first}
use Rattle.wide_iter.proofs.Runs.{YieldsList-over}
use Rattle.widestring_tests.proofs.encoders.bytes_of.Goals as goal

pub returns : goal.returns
returns c =
    let made = c.encode_utf8.ensures in
    let left : bytes_left copied_rest c.encode_utf8.result ≡ utf8 c.args.letters.now = made.bytes copied_rest ∙ ap utf8 (search rules) in
    items_from_collect c.collect.result c.collect.ensures.ran (YieldsList-over _ _ (λ b. b) bytes_left copied_rest copied_gives_first _ left)

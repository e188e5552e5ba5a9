use Rattle.std.proofs.Common.{◌≡◌, ◌∙◌, ℕ, ap, arith, length, map, sym}
use Rattle.std.proofs.lemmas.List.{map-id}
use Rattle.wide_forms.specs.EncodingForm.{Utf16, Utf32, encode}
use Rattle.wide_forms.specs.Items.{chars}
use Rattle.wide_forms.specs.Laws.Utf32.{encode32}
use Rattle.widestring_c.proofs.between.put_scalars.Goals as goal

pub returns-in-Some-clause-len : goal.returns-in-Some-clause-len
returns-in-Some-clause-len c = λ well.
    let us = c.args.units.now in
    let same : encode Utf32 (chars Utf16 (map (λ (u : ℕ). u) us)) ≡ chars Utf16 us = encode32 _ ∙ ap (chars Utf16) (map-id us) in
    omega (arith, c.in-Some.ensures.1.len, ap length same)

pub returns-in-Some-clause-scalars : goal.returns-in-Some-clause-scalars
returns-in-Some-clause-scalars c = λ well fits. sym (map-id _) ∙ c.in-Some.ensures.1.units fits ∙ encode32 _ ∙ ap (chars Utf16) (map-id c.args.units.now)

pub returns-in-None-clause-scalars : goal.returns-in-None-clause-scalars
returns-in-None-clause-scalars c = λ well fits. absurd (omega (arith, fits))

use Rattle.std.proofs.Common.{◌≡◌, ◌<◌, ◌^◌, ◌∙◌, ap, sym, subst, take}
use Rattle.std.specs.List.{All}
use Rattle.std.proofs.lemmas.Grind.{get_or_default_zero}
use Rattle.wide_forms.specs.EncodingForm.{Utf16 as Utf16Form, IsCodeUnit}
use Rattle.wide_forms.specs.Items.{IsWellFormed}
use Rattle.wide_bytes.specs.Bytes.{bytes_in}
use Rattle.wide_unit.specs.CodePoints.{code_points}
use Rattle.wide_forms.specs.Laws.Utf32.{encode32}
use Rattle.wide_schemes.specs.Layouts.{bytes32_in, encoded, needs_text}
use Rattle.wide_schemes.specs.Wtf8Laws.{encode-code_points}
use Rattle.wide_schemes.specs.declared.layout.Layout.TheVariants.{Utf16, Utf32}
use Rattle.wide_schemes.proofs.Bytes32.{codes-well_formed}
use Rattle.wide_schemes.proofs.bytes.encode.Goals as goal

pub returns-in-Utf16-clause-text : goal.returns-in-Utf16-clause-text
returns-in-Utf16-clause-text c =
    let us = c.args.units.now in
    let units : All (IsCodeUnit Utf16Form) us = λ k d within. subst (λ u. u < 2 ^ 16) (sym (get_or_default_zero us k d within)) (c.type_inv.units k).fits in
    let same : take c.put_utf16.result c.put_utf16.new.out ≡ encoded (Utf16 c.in-Utf16.order) (code_points Utf16Form us) = c.put_utf16.ensures.text ∙ ap (bytes_in c.in-Utf16.order) (sym (encode-code_points us units)) in
    same ∙ ap (λ l. encoded l (code_points Utf16Form us)) (sym c.in-Utf16.is)

pub returns-in-Utf32-clause-text : goal.returns-in-Utf32-clause-text
returns-in-Utf32-clause-text c =
    let us = c.args.units.now in
    let well : IsWellFormed Utf16Form us = c.requires.well_formed (ap needs_text c.in-Utf32.is) in
    let same : take c.put_utf32.result c.put_utf32.new.out ≡ encoded (Utf32 c.in-Utf32.order) (code_points Utf16Form us) =
    c.put_utf32.ensures.text ∙ ap (bytes32_in c.in-Utf32.order) (sym (encode32 (code_points Utf16Form us) ∙ codes-well_formed us well)) in
    same ∙ ap (λ l. encoded l (code_points Utf16Form us)) (sym c.in-Utf32.is)

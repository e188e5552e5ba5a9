use Rattle.std.proofs.Common.{map, ap, ◌∙◌}
use Rattle.std.proofs.lemmas.List.{map-id}
use Rattle.std.specs.Ordering.{nat_cmp}
use Rattle.std.specs.Cmp.Lexicographic.{slice_cmp}
use Rattle.wide_forms.specs.EncodingForm.{Utf16}
use Rattle.wide_unit.specs.CodePoints.{code_points}
use Rattle.widestring_c.specs.Compared.{sign_of}
use Rattle.widestring_c.proofs.Signs.{returned}
use Rattle.widestring_c.proofs.compare.wide_utf16_compare_code_points.Goals as goal

pub returns : goal.returns
returns c =
    let order = slice_cmp nat_cmp (code_points Utf16 c.args.units.now) (code_points Utf16 c.args.other.now) in
    returned c.sign_of.result order (
    c.sign_of.ensures ∙ ap sign_of c.cmp_code_points.ensures.order
    ∙ ap (λ us. sign_of (slice_cmp nat_cmp (code_points Utf16 us) (code_points Utf16 (map (λ u. u) c.args.other.now)))) (map-id c.args.units.now)
    ∙ ap (λ us. sign_of (slice_cmp nat_cmp (code_points Utf16 c.args.units.now) (code_points Utf16 us))) (map-id c.args.other.now)
    )

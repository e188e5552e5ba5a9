use Rattle.std.proofs.Common.{map, ap, ◌∙◌}
use Rattle.std.proofs.lemmas.List.{map-id}
use Rattle.std.specs.Ordering.{nat_cmp}
use Rattle.std.specs.Cmp.Lexicographic.{slice_cmp}
use Rattle.wide_forms.specs.EncodingForm.{Utf32}
use Rattle.wide_unit.specs.CodePoints.{code_points}
use Rattle.wide_unit.proofs.CodePoints.{points32}
use Rattle.widestring_c.specs.Compared.{sign_of}
use Rattle.widestring_c.proofs.Signs.{returned}
use Rattle.widestring_c.proofs.compare.wide_utf32_compare_code_points.Goals as goal

pub returns : goal.returns
returns c =
    let order = slice_cmp nat_cmp c.args.units.now c.args.other.now in
    returned c.sign_of.result order (
    c.sign_of.ensures ∙ ap sign_of c.cmp_code_points.ensures.order
    ∙ ap (λ us. sign_of (slice_cmp nat_cmp us (code_points Utf32 (map (λ u. u) c.args.other.now)))) (points32 (map (λ u. u) c.args.units.now) ∙ map-id c.args.units.now)
    ∙ ap (λ us. sign_of (slice_cmp nat_cmp c.args.units.now us)) (points32 (map (λ u. u) c.args.other.now) ∙ map-id c.args.other.now)
    )

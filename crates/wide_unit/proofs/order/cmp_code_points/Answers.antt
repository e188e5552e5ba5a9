use Rattle.std.proofs.Common.{map, drop, ap, refl, sym, ◌∙◌}
use Rattle.std.specs.Ordering.{nat_cmp}
use Rattle.std.specs.Cmp.Lexicographic.{slice_cmp}
use Rattle.wide_forms.specs.Offsets.{text_of}
use Rattle.wide_unit.proofs.CodePoints.{points, order-of_rest, points-of_chars}
use Rattle.wide_unit.proofs.order.cmp_code_points.Goals as goal

pub returns-clause-order : goal.returns-clause-order
returns-clause-order g c =
    let number = g.C.Unit.number in
    let form = g.C.Unit.form in
    let us = c.args.left.now in
    let vs = c.args.right.now in
    let at = c.cut_before-at.result in
    c.compare_items.ensures ∙ ap (λ xs. slice_cmp nat_cmp (points number form xs) (points number form c.split_at-2.result.1.now)) c.split_at.ensures.back
    ∙ ap (λ ys. slice_cmp nat_cmp (points number form (drop at us)) (points number form ys)) c.split_at-2.ensures.back
    ∙ order-of_rest number form us vs c.common_prefix.result at c.common_prefix.ensures.same c.cut_before-at.ensures.within (c.cut_before-at.ensures.cut us refl) (c.cut_before-at.ensures.cut vs (sym c.common_prefix.ensures.same))

pub returns-clause-text : goal.returns-clause-text
returns-clause-text g c = λ well other.
    let number = g.C.Unit.number in
    let form = g.C.Unit.form in
    returns-clause-order g c ∙ ap (λ cs. slice_cmp nat_cmp cs (points number form c.args.right.now)) (points-of_chars form (map number c.args.left.now) well)
    ∙ ap (slice_cmp nat_cmp (text_of form number c.args.left.now)) (points-of_chars form (map number c.args.right.now) other)

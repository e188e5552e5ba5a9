use Rattle.std.proofs.Common.{◌≡◌, ℕ, ◌+◌, ◌-◌, ◌<◌, ◌≤◌, ◌↔◌, Option, Some, None, IsSome, List, map, take, length, length-take, refl, subst, sym, ap, ◌∙◌, ◌++◌, arith}
use Rattle.std.proofs.lemmas.List.{length-map, map-append}
use Rattle.wide_forms.specs.EncodingForm.{EncodingForm}
use Rattle.wide_forms.specs.Items.{chars, IsWellFormed}
use Rattle.wide_forms.specs.Offsets.{IsOffsetOf, IsCharBoundary}
use Rattle.wide_unit.proofs.CharBoundaries.{IsCharBoundary-of}
use Rattle.wide_utfstr.proofs.Walk.{left-prefix, left-all, left-count, left-none, left-more, left-shorter, left-offset}
use Rattle.wide_utfstr.proofs.Boundary.{boundary_near}
use Rattle.wide_utfstr.proofs.Counts.{chars-at_most}
use Rattle.wide_utfstr.proofs.view.UtfStr.unit_offset.Goals.{then-is_char_boundary, else-is_char_boundary}
use Rattle.wide_utfstr.proofs.view.UtfStr.unit_offset.Goals as goal

none-past : (r : Option ℕ) (index count : ℕ) → r ≡ None → count < index → IsSome r ↔ (index ≤ count)
none-past None index count e past = (λ some. absurd cc, λ within. absurd (omega arith))
none-past (Some n) index count e past = absurd cc

pub loop-passed-init : goal.loop-passed-init
loop-passed-init g c = (omega arith, left-all g.C.Unit.form (map g.C.Unit.number c.args.self.units.now) c.args.self.well_formed)

pub returns-then-ahead-len-clause-some : goal.returns-then-ahead-len-clause-some
returns-then-ahead-len-clause-some g c =
    let form = g.C.Unit.form in
    let number = g.C.Unit.number in
    let us = map number c.args.self.units.now in
    let rest = c.loop-passed.rest in
    let counted = left-count form us c.args.self.well_formed (map number rest.units.now) c.loop-passed.passed c.loop-passed.invariant.1 in
    none-past None c.args.index (length (chars form us)) refl (omega (arith, counted, chars-at_most form number rest.units.now rest.well_formed, c.if-ahead-len.true, c.len.ensures))

pub split_at-requires : goal.split_at-requires
split_at-requires g c =
    let form = g.C.Unit.form in
    let us = map g.C.Unit.number c.loop-passed.rest.units.now in
    elim c.if-is_char_boundary.branch [
      | then-is_char_boundary w ↦ subst (λ n. IsCharBoundary form us n) (sym w.end-is) (c.is_char_boundary.ensures.char_boundary.0 w.if-is_char_boundary.true)
      | else-is_char_boundary w ↦
          subst (λ n. IsCharBoundary form us n) (sym w.end-is)
          (boundary_near form us (c.args.index - c.loop-passed.passed) c.loop-passed.rest.well_formed (omega (arith, c.loop-passed-test.true)) (omega (arith, length-map c.loop-passed.rest.units.now g.C.Unit.number, c.if-ahead-len.false, c.len.ensures))
          (λ here. let yes = c.is_char_boundary.ensures.char_boundary.1 here in let no = w.if-is_char_boundary.false in absurd cc))
    ]

-- Units have at most as many characters as units.
passed-within : {X : Type 0} (form : EncodingForm) (number : X → ℕ) (prefix rest : List X) (end passed count index : ℕ) → IsWellFormed form (map number prefix) → end ≤ index - passed → passed ≤ index → prefix ≡ take end rest → count ≡ length (chars form (map number prefix)) → passed + count ≤ index
passed-within form number prefix rest end passed count index well few below is counted = omega (arith, few, below, ap length is, length-take end rest, chars-at_most form number prefix well, counted)

pub loop-passed-preserved : goal.loop-passed-preserved
loop-passed-preserved g c =
    let form = g.C.Unit.form in
    let number = g.C.Unit.number in
    let prefix = c.split_at.result.0 in
    let others = c.split_at.result.1 in
    let us = map number c.args.self.units.now in
    let joined : map number prefix.units.now ++ map number others.units.now ≡ map number c.loop-passed.rest.units.now = sym (map-append number prefix.units.now others.units.now) ∙ ap (map number) c.split_at.ensures.joined in
    let step =
    left-prefix form us c.args.self.well_formed (map number c.loop-passed.rest.units.now) c.loop-passed.passed c.loop-passed.invariant.1 (map number prefix.units.now) (map number others.units.now) c.char_count-passed.result joined prefix.well_formed
    others.well_formed c.char_count-passed.ensures
    in
    let few : c.if-is_char_boundary.end ≤ c.args.index - c.loop-passed.passed = elim c.if-is_char_boundary.branch [ then-is_char_boundary w ↦ omega (arith, w.end-is) | else-is_char_boundary w ↦ omega (arith, w.end-is) ] in
    (passed-within form number prefix.units.now c.loop-passed.rest.units.now c.if-is_char_boundary.end c.loop-passed.passed c.char_count-passed.result c.args.index prefix.well_formed few (omega (arith, c.loop-passed-test.true)) c.split_at.ensures.prefix c.char_count-passed.ensures, step.1)

pub overflow_add-passed : goal.overflow_add-passed
overflow_add-passed g c =
    let prefix = c.split_at.result.0 in
    let few : c.if-is_char_boundary.end ≤ c.args.index - c.loop-passed.passed = elim c.if-is_char_boundary.branch [ then-is_char_boundary w ↦ omega (arith, w.end-is) | else-is_char_boundary w ↦ omega (arith, w.end-is) ] in
    record { fits = omega (arith, passed-within g.C.Unit.form g.C.Unit.number prefix.units.now c.loop-passed.rest.units.now c.if-is_char_boundary.end c.loop-passed.passed c.char_count-passed.result c.args.index prefix.well_formed few (omega (arith, c.loop-passed-test.true)) c.split_at.ensures.prefix c.char_count-passed.ensures, c.ranges.index.fits) }

pub loop-number-preserved : goal.loop-number-preserved
loop-number-preserved g c =
    let number = g.C.Unit.number in
    let others = c.in_ok-others.others in
    left-more g.C.Unit.form (map number c.args.self.units.now) c.args.self.well_formed (map number c.loop-number.rest.units.now) c.loop-number._number c.loop-number.invariant
    (map number others.units.now) c.in_ok-others.field-0-0 others.well_formed c.in_ok-others.ensures.some

pub returns-in_err-others-clause-some : goal.returns-in_err-others-clause-some
returns-in_err-others-clause-some g c =
    let number = g.C.Unit.number in
    let all =
    left-none g.C.Unit.form (map number c.args.self.units.now) c.args.self.well_formed (map number c.loop-number.rest.units.now) c.loop-number._number c.loop-number.invariant c.in_err-others.ensures.none
    in
    none-past c.from_residual.result c.args.index (length (chars g.C.Unit.form (map number c.args.self.units.now))) c.from_residual.ensures (omega (arith, all, c.loop-number-test.true))

pub overflow_sub-result : goal.overflow_sub-result
overflow_sub-result g c =
    let us = c.args.self.units.now in
    let rest = c.loop-number.rest.units.now in
    let number = g.C.Unit.number in
    omega
    (arith, left-shorter g.C.Unit.form (map number us) c.args.self.well_formed (map number rest) c.loop-number._number c.loop-number.invariant, length-map us number, length-map rest number)

pub returns-clause-offset : goal.returns-clause-offset
returns-clause-offset g c =
    let us = c.args.self.units.now in
    let rest = c.loop-number.rest.units.now in
    let form = g.C.Unit.form in
    let number = g.C.Unit.number in
    let shorter : length rest ≤ length us = overflow_sub-result g c in
    let joined : (length us - length rest) + length (map number rest) ≡ length (map number us) = omega (arith, length-map us number, length-map rest number) in
    let reached : c.loop-number._number ≡ c.args.index = omega arith in
    subst (λ k. IsOffsetOf form (map number us) k (length us - length rest)) reached
    (left-offset form (map number us) c.args.self.well_formed (map number rest) c.loop-number._number c.loop-number.invariant (length us - length rest) joined)

pub returns-clause-char_boundary : goal.returns-clause-char_boundary
returns-clause-char_boundary g c =
    let us = c.args.self.units.now in
    IsCharBoundary-of g.C.Unit.form (map g.C.Unit.number us) (length us - length c.loop-number.rest.units.now) c.args.self.well_formed (returns-clause-offset g c).boundary

pub returns-then-is_offset_of_itself-clause-char_boundary : goal.returns-then-is_offset_of_itself-clause-char_boundary
returns-then-is_offset_of_itself-clause-char_boundary g c =
    IsCharBoundary-of g.C.Unit.form (map g.C.Unit.number c.args.self.units.now) c.args.index c.args.self.well_formed (c.is_offset_of_itself.ensures.offset c.if-is_offset_of_itself.true).boundary

use Rattle.std.proofs.Common.{◌≡◌, ◌-◌, arith, subst, get_or}
use Rattle.wide_forms.specs.EncodingForm.{Utf16}
use Rattle.wide_forms.specs.Items.{IsBoundary}
use Rattle.wide_forms.specs.Laws.Boundaries.{IsBoundary-at, IsBoundary-end}
use Rattle.wide_forms.specs.Laws.Forms.{high-no_low}
use Rattle.wide_forms.specs.Laws.Offsets.{IsBoundary-start, IsBoundary-within}
use Rattle.widestring_c.proofs.Splits.{IsBoundary-after, high-is, high-not, low-is, low-not, pair-not_split}
use Rattle.widestring_c.proofs.boundaries.wide_utf16_floor_char_boundary.Goals as goal
use Rattle.widestring_c.proofs.boundaries.wide_utf16_floor_char_boundary.Goals.{else-offset-gt0-via-else-offset-gt0, else-offset-gt0-via-then-offset-gt0+else-is_high_surrogate, else-offset-gt0-via-then-offset-gt0+then-is_high_surrogate+else-is_low_surrogate}

pub returns-then-offset-units-clause-boundary : goal.returns-then-offset-units-clause-boundary
returns-then-offset-units-clause-boundary c = IsBoundary-end Utf16 c.args.units.now

pub returns-then-offset-units-clause-greatest : goal.returns-then-offset-units-clause-greatest
returns-then-offset-units-clause-greatest c = λ k more before at. omega (arith, more, IsBoundary-within Utf16 c.args.units.now k at)

pub returns-then-is_low_surrogate-clause-boundary : goal.returns-then-is_low_surrogate-clause-boundary
returns-then-is_low_surrogate-clause-boundary c =
    let u = get_or c.args.units.now (c.args.offset - 1) 0 in
    let high = high-is u c.is_high_surrogate.result c.is_high_surrogate.ensures c.if-is_high_surrogate.true in
    IsBoundary-at Utf16 c.args.units.now (c.args.offset - 1) (omega (arith, c.if-offset-units.false)) (λ low. high-no_low Utf16 u high low)

pub returns-then-is_low_surrogate-clause-greatest : goal.returns-then-is_low_surrogate-clause-greatest
returns-then-is_low_surrogate-clause-greatest c = λ k more before at.
    let us = c.args.units.now in
    let same : k ≡ c.args.offset = omega (arith, more, before, c.if-offset-gt0.true) in
    let high = high-is (get_or us (c.args.offset - 1) 0) c.is_high_surrogate.result c.is_high_surrogate.ensures c.if-is_high_surrogate.true in
    let low = low-is (get_or us c.args.offset 0) c.is_low_surrogate.result c.is_low_surrogate.ensures c.if-is_low_surrogate.true in
    pair-not_split Utf16 us (c.args.offset - 1) c.args.offset (omega (arith, c.if-offset-gt0.true)) (omega (arith, c.if-offset-units.false)) high low (subst (λ n. IsBoundary Utf16 us n) same at)

pub returns-else-offset-gt0-clause-boundary : goal.returns-else-offset-gt0-clause-boundary
returns-else-offset-gt0-clause-boundary c =
    let us = c.args.units.now in
    let offset = c.args.offset in
    elim c.else-offset-gt0.branch [
      | else-offset-gt0-via-then-offset-gt0+then-is_high_surrogate+else-is_low_surrogate w ↦
          IsBoundary-at Utf16 us offset (omega (arith, c.if-offset-units.false)) (low-not (get_or us offset 0) w.is_low_surrogate.result w.is_low_surrogate.ensures w.if-is_low_surrogate.false)
      | else-offset-gt0-via-then-offset-gt0+else-is_high_surrogate w ↦
          IsBoundary-after Utf16 us offset (omega (arith, w.if-offset-gt0.true)) (omega (arith, c.if-offset-units.false)) (high-not (get_or us (offset - 1) 0) w.is_high_surrogate.result w.is_high_surrogate.ensures w.if-is_high_surrogate.false)
      | else-offset-gt0-via-else-offset-gt0 w ↦ (let none : 0 ≡ offset = omega (arith, w.if-offset-gt0.false) in subst (λ n. IsBoundary Utf16 us n) none (IsBoundary-start Utf16 us))
    ]

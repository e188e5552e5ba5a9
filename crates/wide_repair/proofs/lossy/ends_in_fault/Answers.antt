use Rattle.std.proofs.Common.{◌≡◌, ◌-◌, ℕ, inl, inr, length, get_or, ap, sym, ◌∙◌, arith}
use Rattle.wide_forms.specs.Searches.{is_high}
use Rattle.wide_repair.proofs.EndFaults.{ends-empty, ends-alone, ends-pair}
use Rattle.wide_repair.proofs.lossy.ends_in_fault.Goals.{else-len-ge2-via-then-len-ge2+then-is_high_surrogate+else-is_low_surrogate, else-len-ge2-via-then-len-ge2+else-is_high_surrogate, else-len-ge2-via-else-len-ge2}
use Rattle.wide_repair.proofs.lossy.ends_in_fault.Goals as goal

pub returns-then-len-eq0 : goal.returns-then-len-eq0
returns-then-len-eq0 c = ends-empty c.args.after_fault c.args.units.now c.if-len-eq0.true

pub returns-then-is_low_surrogate : goal.returns-then-is_low_surrogate
returns-then-is_low_surrogate c =
    let us = c.args.units.now in
    let before : length us - 1 - 1 ≡ length us - 2 = omega arith in
    ends-pair c.args.after_fault us (length us - 1) (omega (arith, c.if-len-ge2.true)) (omega (arith, c.if-len-ge2.true)) (ap (λ k. is_high (get_or us k 0)) before ∙ sym c.is_high_surrogate.ensures ∙ c.if-is_high_surrogate.true) (sym c.is_low_surrogate.ensures ∙ c.if-is_low_surrogate.true)

pub returns : goal.returns
returns c =
    let us = c.args.units.now in
    let q : ℕ = length us - 1 in
    let before : q - 1 ≡ length us - 2 = omega arith in
    c.is_surrogate.ensures
    ∙ ends-alone c.args.after_fault us q (omega (arith, c.if-len-eq0.false)) ((c.type_inv.units q).fits) (λ some. elim c.else-len-ge2.branch [
      | else-len-ge2-via-then-len-ge2+then-is_high_surrogate+else-is_low_surrogate w ↦ inr (sym w.is_low_surrogate.ensures ∙ w.if-is_low_surrogate.false)
      | else-len-ge2-via-then-len-ge2+else-is_high_surrogate w ↦ inl (ap (λ k. is_high (get_or us k 0)) before ∙ sym w.is_high_surrogate.ensures ∙ w.if-is_high_surrogate.false)
      | else-len-ge2-via-else-len-ge2 w ↦ absurd (omega (arith, some, w.if-len-ge2.false))
    ])

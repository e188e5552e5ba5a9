use Rattle.std.proofs.Common.{◌≡◌, ◌<◌, ◌≤◌, ◌+◌, ◌*◌, ◌^◌, ℕ, List, [], ◌∷◌, ◌++◌, get_or, take, length, arith, lit<, ap, ◌∙◌, refl}
use Rattle.std.proofs.lemmas.Grind.{common_steps, pow_more}
use Rattle.std.specs.Char.{digit_value}
use Rattle.std.proofs.Math.Nat.{pow-le-pow_right}
use Rattle.std.proofs.lemmas.List.{take_more}
use Rattle.std.proofs.lemmas.List.Sums.{fold-append}
use Rattle.std.proofs.lemmas.List.Elements.{All-append}
use Rattle.wide_registry.specs.Digits.{IsHex, number}
use Rattle.wide_registry.proofs.digits.number_of.Goals as goal

-- Seven digits and another one fit.
below : (value index digit : ℕ) → value < 16 ^ index → index < 8 → digit < 16 → value * 16 + digit < 4294967296
below value index digit h i d =
    let most : 16 ^ index ≤ 268435456 = pow-le-pow_right {n = 16} (lit< tt) {i = index} {j = 7} (omega arith) in omega arith

-- One more digit gives at most sixteen times as many numbers.
bound : (value index digit : ℕ) → value < 16 ^ index → digit < 16 → value * 16 + digit < 16 ^ (index + 1)
bound value index digit h d =
    let e : 16 ^ (index + 1) ≡ 16 ^ index * 16 = pow_more 16 index in omega arith

-- The number of one more digit.
number-more : (digits : List ℕ) (i value digit : ℕ) → i < length digits → value ≡ number (take i digits) → digit ≡ digit_value (get_or digits i 0) → value * 16 + digit ≡ number (take (i + 1) digits)
number-more digits i value digit lt e f =
    rw (take_more digits i 0 lt, fold-append (λ value unit. value * 16 + digit_value unit) 0 (take i digits) (get_or digits i 0 ∷ []), e, f)

-- One more digit keeps all of them digits.
hex-more : (digits : List ℕ) (i : ℕ) → i < length digits → IsHex (take i digits) → digit_value (get_or digits i 0) < 16 → IsHex (take (i + 1) digits)
hex-more digits i lt all one = grind (arith, common_steps, take_more digits i 0 lt, All-append)

pub overflow_mul-value : goal.overflow_mul-value
overflow_mul-value c =
    let at : c.loop-unit.unit-index < 8 = omega arith in
    omega (arith, below c.loop-unit.value c.loop-unit.unit-index 0 c.loop-unit.invariant.2 at (lit< tt))

pub overflow_add-value : goal.overflow_add-value
overflow_add-value c =
    let at : c.loop-unit.unit-index < 8 = omega arith in
    let digit : c.in_ok-value.field-0 < 16 = rw c.in_ok-value.ensures.value (c.in_ok-value.ensures.some.0 refl) in
    omega (arith, below c.loop-unit.value c.loop-unit.unit-index c.in_ok-value.field-0 c.loop-unit.invariant.2 at digit)

pub loop-unit-preserved : goal.loop-unit-preserved
loop-unit-preserved c =
    let digit : c.in_ok-value.field-0 < 16 = rw c.in_ok-value.ensures.value (c.in_ok-value.ensures.some.0 refl) in (
      number-more c.args.digits.now c.loop-unit.unit-index c.loop-unit.value c.in_ok-value.field-0 c.loop-unit-test.true c.loop-unit.invariant.0 c.in_ok-value.ensures.value,
      hex-more c.args.digits.now c.loop-unit.unit-index c.loop-unit-test.true c.loop-unit.invariant.1 (c.in_ok-value.ensures.some.0 refl),
      bound c.loop-unit.value c.loop-unit.unit-index c.in_ok-value.field-0 c.loop-unit.invariant.2 digit,
    )

use Rattle.std.proofs.Common.{◌≡◌, ◌∙◌, arith, length}
use Rattle.widestring_c.proofs.Wtf8Texts.{front-is, written-units}
use Rattle.widestring_c.proofs.wtf8.wide_wtf8_to_utf16.Goals as goal

pub returns-clause-units : goal.returns-clause-units
returns-clause-units c = λ us is fits.
    let put = c.write_from_wtf8-written in
    let old = c.split_at_mut-space.result.0.now in
    let exact : length old ≡ length us = c.split_at_mut-space.ensures.front_len ∙ c.wide_wtf8_utf16_length-len.ensures.len us is in
    let same : length put.new.units ≡ length old = omega (arith, put.auto.units) in
    front-is c.wide_wtf8_utf16_length-len.result put.new.units c.split_at_mut-space.result.1.now us (same ∙ c.split_at_mut-space.ensures.front_len) (written-units put.result us c.args.text.now old put.new.units put.ensures.text put.ensures.len put.ensures.none put.ensures.fault is exact same)

pub returns-clause-unchanged : goal.returns-clause-unchanged
returns-clause-unchanged c = λ none. absurd (omega (arith, c.wide_wtf8_utf16_length-len.ensures.fault none, c.if-len-units.false))

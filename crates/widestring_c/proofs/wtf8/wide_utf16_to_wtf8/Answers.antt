use Rattle.std.proofs.Common.{◌≡◌, ◌∙◌, arith, length}
use Rattle.wide_schemes.specs.Wtf8.{wtf8}
use Rattle.widestring_c.proofs.Wtf8Texts.{front-is, written-text}
use Rattle.widestring_c.proofs.wtf8.wide_utf16_to_wtf8.Goals as goal

pub returns-clause-text : goal.returns-clause-text
returns-clause-text c = λ fits.
    let us = c.args.units.now in
    let put = c.write_wtf8-written in
    let old = c.split_at_mut-space.result.0.now in
    let exact : length old ≡ length (wtf8 us) = c.split_at_mut-space.ensures.front_len ∙ c.wide_utf16_wtf8_length-len.ensures.len in
    let same : length put.new.out ≡ length old = omega (arith, put.auto.out) in
    front-is c.wide_utf16_wtf8_length-len.result put.new.out c.split_at_mut-space.result.1.now (wtf8 us) (same ∙ c.split_at_mut-space.ensures.front_len) (written-text put.result us old put.new.out put.ensures.text put.ensures.len put.ensures.none exact same)

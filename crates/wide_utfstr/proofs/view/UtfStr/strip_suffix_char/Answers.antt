use Rattle.std.proofs.Common.{◌≡◌, ◌-◌, length, refl, arith}
use Rattle.wide_forms.specs.EncodingForm.{code_units}
use Rattle.wide_search.proofs.Characters.{prefix-of_ends}
use Rattle.wide_utfstr.specs.View.{units_seen}
use Rattle.wide_utfstr.proofs.view.UtfStr.strip_suffix_char.Goals as goal

pub returns-clause-prefix : goal.returns-clause-prefix
returns-clause-prefix g c =
    let us = units_seen c.args.self in
    let needle = code_units g.C.Unit.form c.args.c in
    let at : c.len.result - c.char_len.result ≡ length us - length needle = omega (arith, c.len.ensures, c.char_len.ensures.value) in
    prefix-of_ends g.C.Unit.number needle us (units_seen c.split_at.result.0) (c.len.result - c.char_len.result) at c.split_at.ensures.prefix (c.if-not-ends_with_char.ensures.0 refl)

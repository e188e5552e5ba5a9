use Rattle.std.proofs.Common.{◌≡◌, ap, arith, length, map}
use Rattle.wide_forms.specs.Items.{chars}
use Rattle.wide_forms.specs.Utf8.{utf8}
use Rattle.wide_forms.specs.Laws.Offsets.{scalars-chars}
use Rattle.wide_from_units.proofs.Utf8Texts.{IsUtf8-utf8, no_text}
use Rattle.wide_from_units.proofs.strings.utf8_string.Goals as goal

pub returns-in_err-text-clause-succeeds : goal.returns-in_err-text-clause-succeeds
returns-in_err-text-clause-succeeds g c = λ none.
    let bytes : length (utf8 (chars g.C.Unit.form (map g.C.Unit.number c.args.units.now))) ≡ 0 = ap length (no_text g.C.Unit.form g.C.Unit.number c.args.units.now (ap length none)) in
    let asked : c.utf8_len.result ≡ 0 = omega (arith, c.utf8_len.ensures, bytes) in
    let failed = c.in_err-text.ensures.succeeds asked in absurd cc

pub from_utf8_unchecked-requires : goal.from_utf8_unchecked-requires
from_utf8_unchecked-requires g c =
    let us = map g.C.Unit.number c.args.units.now in
    let bytes = utf8 (chars g.C.Unit.form us) in
    rw (c.in_ok-push_utf8.ensures.text, c.in_ok-text.ensures.items) (IsUtf8-utf8 (chars g.C.Unit.form us) (scalars-chars g.C.Unit.form us c.requires))

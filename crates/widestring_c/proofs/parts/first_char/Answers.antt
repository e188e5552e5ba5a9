use Rattle.std.proofs.Common.{◌<◌, ◌≤◌, sym, ap, ◌∙◌, arith, length, subst}
use Rattle.std.specs.Str.{IsUtf8}
use Rattle.std.specs.Str.Lossy.{utf8_valid_len}
use Rattle.std.proofs.lemmas.Str.{utf8_valid_len_le}
use Rattle.widestring_c.specs.Parts.{BeginsWithChar}
use Rattle.widestring_c.proofs.FirstChars.{begin-with_none, window-read, window-read_some}
use Rattle.widestring_c.proofs.parts.first_char.Goals as goal

pub returns-then-valid-eq0-clause-none : goal.returns-then-valid-eq0-clause-none
returns-then-valid-eq0-clause-none c =
    begin-with_none c.args.text.now c.min.result c.min.ensures (ap utf8_valid_len (sym c.split_at.ensures.front) ∙ sym c.first_utf8_chunk-valid.ensures.len ∙ c.if-valid-eq0.true)

pub char_of-requires : goal.char_of-requires
char_of-requires c =
    let window = c.split_at.result.0.now in
    let piece = c.split_at-2.result.0.now in
    let valid = c.first_utf8_chunk-valid.result.valid in
    let is = c.split_at-2.ensures.front in
    let within : valid ≤ length window = omega (arith, c.first_utf8_chunk-valid.ensures.len, utf8_valid_len_le window) in
    let some : 0 < valid = omega (arith, c.if-valid-eq0.false) in
    let text = subst IsUtf8 (sym is) c.first_utf8_chunk-valid.ensures.prefix in
    (window-read c.args.text.now window piece c.min.result valid c.in-Some.code _ c.split_at.ensures.front is within some text c.in-Some.ensures).0

pub returns-in-Some-clause-some : goal.returns-in-Some-clause-some
returns-in-Some-clause-some c =
    let window = c.split_at.result.0.now in
    let piece = c.split_at-2.result.0.now in
    let valid = c.first_utf8_chunk-valid.result.valid in
    let is = c.split_at-2.ensures.front in
    let within : valid ≤ length window = omega (arith, c.first_utf8_chunk-valid.ensures.len, utf8_valid_len_le window) in
    let some : 0 < valid = omega (arith, c.if-valid-eq0.false) in
    let text = subst IsUtf8 (sym is) c.first_utf8_chunk-valid.ensures.prefix in
    subst (BeginsWithChar c.args.text.now) (sym c.char_of.ensures) (window-read c.args.text.now window piece c.min.result valid c.in-Some.code _ c.split_at.ensures.front is within some text c.in-Some.ensures).1

pub returns-in-None-clause-none : goal.returns-in-None-clause-none
returns-in-None-clause-none c =
    let window = c.split_at.result.0.now in
    let piece = c.split_at-2.result.0.now in
    let valid = c.first_utf8_chunk-valid.result.valid in
    let is = c.split_at-2.ensures.front in
    let within : valid ≤ length window = omega (arith, c.first_utf8_chunk-valid.ensures.len, utf8_valid_len_le window) in
    let some : 0 < valid = omega (arith, c.if-valid-eq0.false) in
    let text = subst IsUtf8 (sym is) c.first_utf8_chunk-valid.ensures.prefix in
    absurd (window-read_some c.args.text.now window piece c.min.result valid c.split_at.ensures.front is within some text c.in-None.ensures)

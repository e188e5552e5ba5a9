use Rattle.std.proofs.Common.{◌≡◌, ◌+◌, ◌≤◌, ◌++◌, length, vec_capacity}
use Rattle.wide_forms.specs.EncodingForm.{Utf32}
use Rattle.wide_utfstr.specs.Iter.{chars_left}
use Rattle.wide_utfstring.proofs.utfstring.UtfString+u32+A.copy_chars.Given as goal

abbrev pub invariant-loop-c : goal.invariant-loop-c
invariant-loop-c g l = record {
  copied : l.chars.items ++ chars_left Utf32 (λ u. u) l.c-iterator ≡ chars_left Utf32 (λ u. u) l.initial.c-iterator;
  space : length l.chars.items + length (chars_left Utf32 (λ u. u) l.c-iterator) ≤ vec_capacity l.chars;
}

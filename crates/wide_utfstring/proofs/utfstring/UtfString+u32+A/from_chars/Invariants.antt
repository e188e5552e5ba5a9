use Rattle.std.proofs.Common.{◌≡◌, take}
use Rattle.wide_forms.specs.EncodingForm.{Utf32}
use Rattle.wide_forms.specs.Items.{chars}
use Rattle.wide_utfstring.proofs.utfstring.UtfString+u32+A.from_chars.Given as goal

abbrev pub invariant-loop-c : goal.invariant-loop-c
invariant-loop-c g l = record {
  units : l.string.units ≡ take l.c-index l.text;
  text : chars Utf32 l.string.units ≡ take l.c-index l.text;
}

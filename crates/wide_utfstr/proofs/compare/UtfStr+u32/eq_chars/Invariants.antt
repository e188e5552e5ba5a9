use Rattle.std.proofs.Common.{drop}
use Rattle.wide_forms.specs.EncodingForm.{Utf32}
use Rattle.wide_utfstr.specs.View.{text_seen}
use Rattle.wide_utfstr.specs.Iter.{chars_left}
use Rattle.wide_utfstr.proofs.Same.{IsSameAs}
use Rattle.wide_utfstr.proofs.compare.UtfStr+u32.eq_chars.Given as goal

abbrev pub invariant-loop-c : goal.invariant-loop-c
invariant-loop-c l = IsSameAs (text_seen l.fn.self) l.chars (chars_left Utf32 (λ u. u) l.ours) (drop l.c-index l.chars)

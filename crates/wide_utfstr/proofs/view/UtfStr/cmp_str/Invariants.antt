use Rattle.std.proofs.Common.{◌≡◌}
use Rattle.std.specs.Ordering.{nat_cmp}
use Rattle.std.specs.Cmp.Lexicographic.{slice_cmp}
use Rattle.std.specs.Str.{IsUtf8, chars as str_chars}
use Rattle.std.specs.Str.Iter.{chars_rest}
use Rattle.wide_utfstr.specs.View.{text_seen}
use Rattle.wide_utfstr.specs.Iter.{chars_left}
use Rattle.wide_utfstr.proofs.view.UtfStr.cmp_str.Given as goal

abbrev pub invariant-loop-c : goal.invariant-loop-c
invariant-loop-c g l =
    (goal.iterator-loop-c g).can_next l.c-iterator
    × (goal.iterator-loop-c g).is_finite l.c-iterator
    × IsUtf8 (chars_rest l.theirs)
    × (slice_cmp nat_cmp (text_seen l.fn.self) (str_chars l.fn.text) ≡ slice_cmp nat_cmp (chars_left g.C.Unit.form g.C.Unit.number l.c-iterator) (str_chars (chars_rest l.theirs)))

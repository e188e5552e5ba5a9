use Rattle.std.proofs.Common.{map}
use Rattle.std.specs.Char.{to_ascii_lowercase}
use Rattle.std.specs.Str.{IsUtf8, chars as str_chars}
use Rattle.std.specs.Str.Iter.{chars_rest}
use Rattle.wide_utfstr.specs.View.{text_seen}
use Rattle.wide_utfstr.specs.Iter.{chars_left}
use Rattle.wide_utfstr.proofs.Same.{IsSameAs}
use Rattle.wide_utfstr.proofs.view.UtfStr.eq_str_ignore_ascii_case.Given as goal

abbrev pub invariant-loop-c : goal.invariant-loop-c
invariant-loop-c g l =
    (goal.iterator-loop-c g).can_next l.c-iterator
    × (goal.iterator-loop-c g).is_finite l.c-iterator
    × IsUtf8 (chars_rest l.theirs)
    × IsSameAs (map to_ascii_lowercase (text_seen l.fn.self)) (map to_ascii_lowercase (str_chars l.fn.text)) (map to_ascii_lowercase (chars_left g.C.Unit.form g.C.Unit.number l.c-iterator)) (map to_ascii_lowercase (str_chars (chars_rest l.theirs)))

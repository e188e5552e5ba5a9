use Rattle.std.proofs.Common.{map}
use Rattle.std.specs.Char.{to_ascii_lowercase}
use Rattle.std.specs.Str.{chars as str_chars}
use Rattle.std.specs.Str.Iter.{chars_rest}
use Rattle.std.proofs.lemmas.Str.{IsUtf8-past_char}
use Rattle.wide_utfstr.specs.Iter.{chars_left}
use Rattle.wide_utfstr.specs.View.{text_seen}
use Rattle.wide_utfstr.proofs.StrTexts.{alike-next, unlike-next, alike-ends}
use Rattle.wide_utfstr.proofs.view.UtfStr.eq_str_ignore_ascii_case.Goals as goal

pub returns-then-not-eq_ignore_ascii_case : goal.returns-then-not-eq_ignore_ascii_case
returns-then-not-eq_ignore_ascii_case g c =
    let form = g.C.Unit.form in
    let number = g.C.Unit.number in
    unlike-next to_ascii_lowercase (map to_ascii_lowercase (text_seen c.args.self)) (map to_ascii_lowercase (str_chars c.args.text.now)) (chars_left form number c.loop-c.c-iterator) (chars_rest c.loop-c.theirs) c.loop-c.invariant.2 c.loop-c.invariant.3
    (chars_left form number c.next.new.self) (chars_rest c.next-in-loop-c.new.self) c.in-Some.c c.in-Some-next.d c.in-Some.ensures.steps c.in-Some-next.ensures.steps.0 c.if-not-eq_ignore_ascii_case.ensures

pub loop-c-preserved : goal.loop-c-preserved
loop-c-preserved g c =
    let form = g.C.Unit.form in
    let number = g.C.Unit.number in
    let theirs = chars_rest c.loop-c.theirs in
    let rest = chars_rest c.next-in-loop-c.new.self in
    let other = c.in-Some-next.ensures.steps.0 in
    let utf8 = c.loop-c.invariant.2 in (
      tt,
      tt,
      IsUtf8-past_char theirs rest c.in-Some-next.d utf8 other,
      alike-next to_ascii_lowercase (map to_ascii_lowercase (text_seen c.args.self)) (map to_ascii_lowercase (str_chars c.args.text.now)) (chars_left form number c.loop-c.c-iterator) theirs utf8 c.loop-c.invariant.3 (chars_left form number c.next.new.self) rest c.in-Some.c c.in-Some-next.d c.in-Some.ensures.steps other c.if-not-eq_ignore_ascii_case.ensures,
    )

pub returns : goal.returns
returns g c =
    alike-ends to_ascii_lowercase (map to_ascii_lowercase (text_seen c.args.self)) (map to_ascii_lowercase (str_chars c.args.text.now)) (chars_left g.C.Unit.form g.C.Unit.number c.loop-c.c-iterator) (chars_rest c.loop-c.theirs) c.loop-c.invariant.2 c.loop-c.invariant.3
    c.next-2.result c.is_none.result c.in-None.ensures.steps.0 c.next-2.ensures.steps.2 c.is_none.ensures

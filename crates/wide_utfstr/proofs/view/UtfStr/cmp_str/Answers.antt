use Rattle.std.proofs.Common.{◌∙◌}
use Rattle.std.specs.Str.{chars as str_chars}
use Rattle.std.specs.Str.Iter.{chars_rest}
use Rattle.std.proofs.lemmas.Str.{chars_past_char, IsUtf8-past_char}
use Rattle.wide_utfstr.specs.Iter.{chars_left}
use Rattle.wide_utfstr.proofs.Ordered.{cmp-more}
use Rattle.wide_utfstr.proofs.view.UtfStr.cmp_str.Goals as goal

pub loop-c-preserved : goal.loop-c-preserved
loop-c-preserved g c =
    let form = g.C.Unit.form in
    let number = g.C.Unit.number in
    let theirs = chars_rest c.loop-c.theirs in
    let rest = chars_rest c.next-in-loop-c.new.self in
    let d = c.in-Some-next.d in
    let other = c.in-Some-next.ensures.steps.0 in
    let utf8 = c.loop-c.invariant.2 in (
      tt,
      tt,
      IsUtf8-past_char theirs rest d utf8 other,
      c.loop-c.invariant.3 ∙ cmp-more (chars_left form number c.loop-c.c-iterator) (str_chars theirs) (chars_left form number c.next.new.self) (str_chars rest) c.in-Some.c d c.in-Some.ensures.steps (chars_past_char theirs rest d utf8 other) c.if-c-d.false,
    )

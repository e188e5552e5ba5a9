use Rattle.std.proofs.Common.{◌≡◌, true}
use Rattle.std.specs.Fmt.{IsFlush}
use Rattle.std.specs.List.{flat_map, list_all}
use Rattle.wide_forms.specs.Utf8.{utf8}
use Rattle.wide_unit.proofs.Printed.{HasPrintedStyled}
use Rattle.wide_utfstr.specs.Iter.{chars_left}
use Rattle.wide_utfstr.specs.Escapes.{escapes_rest, escapes_left}
use Rattle.wide_utfstr.proofs.escapes.Escapes.write.Given as goal

abbrev pub invariant-loop-c : goal.invariant-loop-c
invariant-loop-c g l =
    let left = chars_left g.C.Unit.form g.C.Unit.number l.c-iterator in
    let reported = g.E.Escaping.is_specified in
    let escaped = g.E.Escaping.escaped in
    list_all reported (escapes_rest l.fn.self) ≡ true → IsFlush l.fn.f
    → (list_all reported left ≡ true) × HasPrintedStyled g.W.Write.write_str_gives l.fn.f (utf8 (escapes_left escaped l.fn.self)) (utf8 (flat_map escaped left)) l.f

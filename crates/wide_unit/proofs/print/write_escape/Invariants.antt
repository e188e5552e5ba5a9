use Rattle.std.proofs.Common.{◌≤◌, encode_utf8_all}
use Rattle.std.specs.Fmt.{IsFlush}
use Rattle.std.specs.Char.Iter.{escape_rest, escape_end}
use Rattle.wide_unit.proofs.Printed.{HasPrintedStyled}
use Rattle.wide_unit.proofs.print.write_escape.Given as goal

abbrev pub invariant-loop-c : goal.invariant-loop-c
invariant-loop-c g l =
    (escape_end l.c-iterator ≤ 10)
    × (IsFlush l.initial.f → HasPrintedStyled g.W.Write.write_str_gives l.initial.f (encode_utf8_all (escape_rest l.fn.escape)) (encode_utf8_all (escape_rest l.c-iterator)) l.f)

use Rattle.std.proofs.Common.{◌≡◌, ◌≤◌, ◌++◌}
use Rattle.std.specs.Prelude.{string_bytes}
use Rattle.std.specs.Char.Escape.{escape_default}
use Rattle.std.specs.Char.Iter.{escape_rest, escape_end}
use Rattle.wide_forms.specs.Utf8.{utf8}
use Rattle.widetext_requests.proofs.lines.push_escape.Given as goal

abbrev pub invariant-loop-escape : goal.invariant-loop-escape
invariant-loop-escape l = record {
  bound : escape_end l.escape-iterator ≤ 10;
  so_far : string_bytes l.lines ++ utf8 (escape_rest l.escape-iterator) ≡ string_bytes l.fn.lines ++ utf8 (escape_default l.fn.c);
}

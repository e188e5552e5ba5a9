use Rattle.std.proofs.Common.{◌≡◌, ◌++◌, take}
use Rattle.std.specs.Prelude.{string_bytes}
use Rattle.widetext_requests.specs.Lines.{escaped}
use Rattle.widetext_requests.proofs.lines.push_escaped.Given as goal

abbrev pub invariant-loop-c : goal.invariant-loop-c
invariant-loop-c l = string_bytes l.lines ≡ string_bytes l.fn.lines ++ escaped (take l.c-index l.text)

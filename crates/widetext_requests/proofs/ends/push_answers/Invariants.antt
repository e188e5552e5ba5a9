use Rattle.std.proofs.Common.{◌≡◌, ◌++◌, map, take}
use Rattle.std.specs.Prelude.{string_bytes}
use Rattle.std.specs.List.{flat_map}
use Rattle.std.specs.Option.{option_map}
use Rattle.wide_unit.specs.Unit.{reported_item}
use Rattle.widetext_requests.specs.Lines.{answer_line}
use Rattle.widetext_requests.proofs.ends.push_answers.Given as goal

abbrev pub invariant-loop-answer : goal.invariant-loop-answer
invariant-loop-answer l = string_bytes l.lines ≡ string_bytes l.fn.lines ++ flat_map answer_line (map (option_map reported_item) (take l.answer-index l.answers))

use Rattle.std.proofs.Common.{◌≡◌, ◌++◌, map}
use Rattle.std.specs.Str.Iter.{bytes_rest}
use Rattle.widetext_requests.specs.Command.{end_letter}
use Rattle.widetext_requests.proofs.arguments.parse_ends.Given as goal

abbrev pub invariant-loop-letter : goal.invariant-loop-letter
invariant-loop-letter l = map end_letter l.ends.items ++ bytes_rest l.letter-iterator ≡ l.word

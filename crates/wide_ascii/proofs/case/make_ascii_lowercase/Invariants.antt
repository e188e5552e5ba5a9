use Rattle.std.specs.Char.{to_ascii_lowercase}
use Rattle.wide_ascii.proofs.Replaced.{IsReplacedTo}
use Rattle.wide_ascii.proofs.case.make_ascii_lowercase.Given as goal

abbrev pub invariant-loop-k : goal.invariant-loop-k
invariant-loop-k g l = IsReplacedTo g.C.Unit.number to_ascii_lowercase l.initial.units l.units l.k

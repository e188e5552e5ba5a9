use Rattle.std.specs.Char.{to_ascii_uppercase}
use Rattle.wide_ascii.proofs.Replaced.{IsReplacedTo}
use Rattle.wide_ascii.proofs.case.make_ascii_uppercase.Given as goal

abbrev pub invariant-loop-k : goal.invariant-loop-k
invariant-loop-k g l = IsReplacedTo g.C.Unit.number to_ascii_uppercase l.initial.units l.units l.k

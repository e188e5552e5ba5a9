use Rattle.std.proofs.Common.{List, ℕ, take}
use Rattle.wide_registry.proofs.Quotes.{IsFront}
use Rattle.wide_registry.proofs.string.closing_quote.Given as goal

abbrev pub invariant-loop-offset : goal.invariant-loop-offset
invariant-loop-offset l = IsFront (take l.offset l.text) l.is_escaped

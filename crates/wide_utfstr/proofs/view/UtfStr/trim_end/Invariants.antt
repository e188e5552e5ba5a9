use Rattle.std.proofs.Common.{length}
use Rattle.wide_utfstr.specs.View.{text_seen}
use Rattle.wide_utfstr.specs.Trim.{IsPrefixOf}
use Rattle.wide_utfstr.proofs.Trims.{IsBeforeWhite}
use Rattle.wide_utfstr.proofs.view.UtfStr.trim_end.Given as goal

abbrev pub invariant-loop-others : goal.invariant-loop-others
invariant-loop-others g l = IsBeforeWhite (text_seen l.self) (text_seen l.rest) × IsPrefixOf l.self.units.now l.rest.units.now

abbrev pub decreases-loop-others : goal.decreases-loop-others
decreases-loop-others g l = length l.rest.units.now

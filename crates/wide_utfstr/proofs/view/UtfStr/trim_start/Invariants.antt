use Rattle.std.proofs.Common.{length}
use Rattle.wide_utfstr.specs.View.{text_seen}
use Rattle.wide_utfstr.specs.Trim.{IsBackOf}
use Rattle.wide_utfstr.proofs.Trims.{IsPastWhite}
use Rattle.wide_utfstr.proofs.view.UtfStr.trim_start.Given as goal

abbrev pub invariant-loop-c : goal.invariant-loop-c
invariant-loop-c g l = IsPastWhite (text_seen l.self) (text_seen l.rest) × IsBackOf l.self.units.now l.rest.units.now

abbrev pub decreases-loop-c : goal.decreases-loop-c
decreases-loop-c g l = length l.rest.units.now

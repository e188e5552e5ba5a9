use Rattle.std.proofs.Common.{rules}
use Rattle.widetext_requests.specs.Lines.{spaced_unit}
use Rattle.widetext_requests.proofs.Hex.{hex_hole}
use Rattle.widetext_requests.proofs.LineTexts.{line_more}
use Rattle.widetext_requests.proofs.lines.push_units32.Goals as goal

pub loop-unit-preserved : goal.loop-unit-preserved
loop-unit-preserved c = line_more (spaced_unit 8) c.args.units.now c.loop-unit.unit-index 0 _ _ _ c.loop-unit-test.true c.loop-unit.invariant (search (rules, hex_hole 8))

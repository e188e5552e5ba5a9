use Rattle.std.proofs.Common.{◌+◌, ◌-◌, ◌*◌, ◌≤◌, arith, length}
use Rattle.wide_forms.proofs.Stored.{stored-block}
use Rattle.wide_bytes.proofs.UnitLists.{eight-more}
use Rattle.wide_bytes.proofs.units_from_bytes.fill_big.Goals as goal

pub eights-preserved : goal.eights-preserved
eights-preserved c = record {
  within = omega (arith, c.eights-test.true);
  units = (let space : c.eights.done + 8 ≤ length c.eights.units = omega (arith, c.requires, c.eights.auto.units, c.eights-test.true) in eight-more c.args.bytes.now c.eights.units _ c.big_lanes.result c.eights.done (length c.args.bytes.now - 2 * c.eights.done) (omega (arith, c.eights-test.true)) space (omega arith) (stored-block 8 c.eights.units c.big_lanes.result c.eights.done (omega arith) space) c.eights.invariant.units c.big_lanes.ensures);
}

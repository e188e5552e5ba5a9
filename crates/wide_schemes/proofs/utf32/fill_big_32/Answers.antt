use Rattle.std.proofs.Common.{◌+◌, ◌-◌, ◌*◌, ◌≤◌, arith, length}
use Rattle.wide_forms.proofs.Stored.{stored-block}
use Rattle.wide_schemes.proofs.Units32.{lanes-more}
use Rattle.wide_schemes.proofs.utf32.fill_big_32.Goals as goal

pub fours-preserved : goal.fours-preserved
fours-preserved c = record {
  within = omega (arith, c.fours-test.true);
  units = (let space : c.fours.done + 4 ≤ length c.fours.units = omega (arith, c.requires, c.fours.auto.units, c.fours-test.true) in lanes-more c.args.bytes.now c.fours.units _ c.big_lanes_32.result c.fours.done (length c.args.bytes.now - 4 * c.fours.done) (omega (arith, c.fours-test.true)) space (omega arith) (stored-block 4 c.fours.units c.big_lanes_32.result c.fours.done (omega arith) space) c.fours.invariant.units c.big_lanes_32.ensures);
}

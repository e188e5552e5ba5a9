use Rattle.std.proofs.Common.{arith}
use Rattle.wide_from_units.proofs.LossyPrefixes.{all-written}
use Rattle.wide_from_units.proofs.strings.push_lossy.Goals as goal

pub returns : goal.returns
returns g c = all-written g.C.Unit.form g.C.Unit.number c.args.policy c.prefixes.after_fault c.prefixes.rest.now c.prefixes.text.items _ (grind (arith, c.is_empty.ensures, c.prefixes-test.false)) c.prefixes.invariant.so_far

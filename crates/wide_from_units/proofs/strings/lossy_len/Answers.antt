use Rattle.std.proofs.Common.{arith}
use Rattle.wide_from_units.proofs.LossyPrefixes.{all-counted}
use Rattle.wide_from_units.proofs.strings.lossy_len.Goals as goal

pub returns : goal.returns
returns g c =
    let left = all-counted g.C.Unit.form g.C.Unit.number c.args.policy c.prefixes.after_fault c.prefixes.rest.now (grind (arith, c.is_empty.ensures, c.prefixes-test.false)) in
    omega (arith, left, c.prefixes.invariant.small, c.prefixes.invariant.counted)

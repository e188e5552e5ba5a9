use Rattle.wide_ucstr.proofs.Cuts.{c_string_in_prefix_of}
use Rattle.wide_ucstr.proofs.view.UCStr.from_slice_truncate.Goals as goal

pub invariant_of-result : goal.invariant_of-result
invariant_of-result g c = record { c_string = c_string_in_prefix_of g.C.Unit.number c.args.units.now c.in-Some.offset c.in-Some.ensures }

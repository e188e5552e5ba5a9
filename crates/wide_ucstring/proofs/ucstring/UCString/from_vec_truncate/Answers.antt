use Rattle.std.proofs.Common.{arith}
use Rattle.std.proofs.lemmas.Grind.{common_steps}
use Rattle.wide_ucstr.proofs.Cuts.{c_string_in_prefix_of}
use Rattle.wide_ucstring.proofs.Ends.{cut_at_first}
use Rattle.wide_ucstring.proofs.ucstring.UCString.from_vec_truncate.Goals as goal

pub invariant_of-result : goal.invariant_of-result
invariant_of-result g c = rw (c.from_vec.ensures.units, c.truncate.ensures.items) (c_string_in_prefix_of g.C.Unit.number c.args.units.items c.in-Some.offset (rw c.as_slice.ensures.value at c.in-Some.ensures))

pub returns-clause-made : goal.returns-clause-made
returns-clause-made g c = rw (c.from_vec.ensures.units, c.truncate.ensures.items) (cut_at_first g.C.Unit.number c.args.units.items c.in-Some.offset (rw c.as_slice.ensures.value at c.in-Some.ensures))

pub overflow_add-offset : goal.overflow_add-offset
overflow_add-offset g c = grind (arith, common_steps)

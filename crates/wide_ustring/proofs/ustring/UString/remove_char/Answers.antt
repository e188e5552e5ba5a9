use Rattle.std.proofs.Common.{arith}
use Rattle.std.proofs.lemmas.Grind.{common_steps}
use Rattle.wide_ustring.proofs.ustring.UString.remove_char.Goals as goal

pub as_slice-requires : goal.as_slice-requires
as_slice-requires g c κs = grind (arith, common_steps)

pub offset_bounds-as_slice-at : goal.offset_bounds-as_slice-at
offset_bounds-as_slice-at g c = grind (arith, common_steps)

pub unreachable-requires : goal.unreachable-requires
unreachable-requires g c = grind (arith, common_steps)

pub overflow_sub-end : goal.overflow_sub-end
overflow_sub-end g c = grind (arith, common_steps)

pub cut-requires-clause-within : goal.cut-requires-clause-within
cut-requires-clause-within g c = grind (arith, common_steps)

pub returns-clause-prefix : goal.returns-clause-prefix
returns-clause-prefix g c = grind (arith, common_steps)

pub returns-clause-taken : goal.returns-clause-taken
returns-clause-taken g c = grind (arith, common_steps)

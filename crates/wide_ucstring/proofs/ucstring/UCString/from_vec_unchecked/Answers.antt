use Rattle.std.proofs.Common.{arith}
use Rattle.std.proofs.lemmas.Grind.{common_steps, elements}
use Rattle.wide_ucstring.proofs.ucstring.UCString.from_vec_unchecked.Goals as goal

pub invariant_of-result : goal.invariant_of-result
invariant_of-result g c = grind (arith, elements)

pub end-requires : goal.end-requires
end-requires g c = grind (arith, common_steps)

pub returns-in-Some-clause-made : goal.returns-in-Some-clause-made
returns-in-Some-clause-made g c = grind (arith, common_steps)

pub returns-in_default-clause-made : goal.returns-in_default-clause-made
returns-in_default-clause-made g c = grind (arith, elements)

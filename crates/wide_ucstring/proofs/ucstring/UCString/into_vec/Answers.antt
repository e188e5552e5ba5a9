use Rattle.std.proofs.Common.{◌≡◌, length, ◌-◌, map, subst, arith}
use Rattle.std.proofs.lemmas.Grind.{common_steps}
use Rattle.std.proofs.lemmas.List.{length-map}
use Rattle.wide_unit.specs.Nul.{NoNulBefore}
use Rattle.wide_ucstr.proofs.Cuts.{no_nul_in_prefix_of}
use Rattle.wide_ucstring.proofs.ucstring.UCString.into_vec.Goals as goal

pub returns-clause-no_nul : goal.returns-clause-no_nul
returns-clause-no_nul g c =
    let number = g.C.Unit.number in
    let units = c.into_vec_with_nul-units.result.items in
    let long : length (map number units) ≡ c.len-len.result = omega (arith, length-map units number, c.len-len.ensures, c.into_vec_with_nul-units.result.ok) in
    rw c.truncate.ensures.items (no_nul_in_prefix_of number units (c.len-len.result - 1) (subst (λ n. NoNulBefore (map number units) (n - 1)) long c.into_vec_with_nul-units.ensures.c_string.before))

pub overflow_sub-len : goal.overflow_sub-len
overflow_sub-len g c = grind (arith, common_steps)

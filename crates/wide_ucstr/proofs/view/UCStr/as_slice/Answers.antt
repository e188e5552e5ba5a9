use Rattle.std.proofs.Common.{length, ◌-◌, map, subst}
use Rattle.std.proofs.lemmas.List.{length-map}
use Rattle.wide_unit.specs.Nul.{NoNulBefore}
use Rattle.wide_ucstr.proofs.Cuts.{no_nul_in_prefix_of}
use Rattle.wide_ucstr.proofs.view.UCStr.as_slice.Goals as goal

pub returns-clause-no_nul : goal.returns-clause-no_nul
returns-clause-no_nul g c =
    let number = g.C.Unit.number in
    let units = c.args.self.units.now in
    no_nul_in_prefix_of number units (length units - 1) (subst (λ n. NoNulBefore (map number units) (n - 1)) (length-map units number) c.args.self.c_string.before)

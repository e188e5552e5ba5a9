use Rattle.std.proofs.Common.{[], ap, map, refl}
use Rattle.wide_forms.specs.Items.{chars}
use Rattle.wide_utfstr.proofs.Indices.{boundaries_from, indices_in_order, indices_in_reverse}
use Rattle.wide_utfstr.proofs.view.UtfStr.char_indices.Goals as goal

pub returns-clause-boundaries : goal.returns-clause-boundaries
returns-clause-boundaries g c =
    let form = g.C.Unit.form in
    let us = map g.C.Unit.number c.args.self.units.now in
    let e = ap (λ vs. chars form (map g.C.Unit.number vs)) c.new.ensures.rest in
    rw (c.new.ensures.offset, e) (boundaries_from form us [] (chars form us) c.args.self.well_formed refl)

pub returns-clause-runs : goal.returns-clause-runs
returns-clause-runs g c = indices_in_order

pub returns-clause-runs_back : goal.returns-clause-runs_back
returns-clause-runs_back g c = indices_in_reverse

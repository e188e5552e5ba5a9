use Rattle.std.proofs.Common.{subst, sym, ap, ◌∙◌, map, length}
use Rattle.std.proofs.lemmas.List.{length-map}
use Rattle.wide_forms.specs.Items.{IsWellFormed}
use Rattle.wide_forms.specs.Laws.Offsets.{encode-chars}
use Rattle.wide_editable.proofs.lookup.string_facts.Goals as goal

pub returns-clause-well_formed : goal.returns-clause-well_formed
returns-clause-well_formed g c = subst (λ us. IsWellFormed g.C.Unit.form (map g.C.Unit.number us)) c.as_slice-units.ensures.units c.as_slice-units.ensures.well_formed

pub returns-clause-encoded : goal.returns-clause-encoded
returns-clause-encoded g c = sym (encode-chars g.C.Unit.form (map g.C.Unit.number c.args.s.now.units) (returns-clause-well_formed g c))

pub returns-clause-count : goal.returns-clause-count
returns-clause-count g c = ap length (sym (returns-clause-encoded g c)) ∙ length-map c.args.s.now.units g.C.Unit.number

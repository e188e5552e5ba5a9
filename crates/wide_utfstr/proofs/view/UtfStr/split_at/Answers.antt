use Rattle.std.proofs.Common.{map, sym, subst}
use Rattle.wide_unit.proofs.CharBoundaries.{IsBoundary-of_char}
use Rattle.wide_forms.specs.Items.{IsWellFormed}
use Rattle.wide_forms.specs.Laws.Splices.{IsWellFormed-map_take, IsWellFormed-map_drop}
use Rattle.wide_utfstr.proofs.Boundary.{boundary-within}
use Rattle.wide_utfstr.proofs.view.UtfStr.split_at.Goals as goal

pub split_at-requires : goal.split_at-requires
split_at-requires g c = boundary-within g.C.Unit.form g.C.Unit.number c.args.self.units.now c.args.mid (IsBoundary-of_char g.C.Unit.form (map g.C.Unit.number c.args.self.units.now) c.args.mid c.requires)

pub invariant_of-result : goal.invariant_of-result
invariant_of-result g c = record {
  well_formed = subst (λ us. IsWellFormed g.C.Unit.form (map g.C.Unit.number us)) (sym c.split_at.ensures.front)
      (IsWellFormed-map_take g.C.Unit.form g.C.Unit.number c.args.self.units.now c.args.self.well_formed c.args.mid (IsBoundary-of_char g.C.Unit.form (map g.C.Unit.number c.args.self.units.now) c.args.mid c.requires));
}

pub invariant_of-result-2 : goal.invariant_of-result-2
invariant_of-result-2 g c = record {
  well_formed = subst (λ us. IsWellFormed g.C.Unit.form (map g.C.Unit.number us)) (sym c.split_at.ensures.back)
      (IsWellFormed-map_drop g.C.Unit.form g.C.Unit.number c.args.self.units.now c.args.self.well_formed c.args.mid (IsBoundary-of_char g.C.Unit.form (map g.C.Unit.number c.args.self.units.now) c.args.mid c.requires));
}

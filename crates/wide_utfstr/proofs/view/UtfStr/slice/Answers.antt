use Rattle.std.proofs.Common.{map, arith}
use Rattle.std.proofs.lemmas.Grind.{common_steps}
use Rattle.wide_unit.proofs.CharBoundaries.{IsTextRange-of_chars}
use Rattle.wide_forms.specs.Laws.Splices.{IsWellFormed-map_part}
use Rattle.wide_utfstr.proofs.view.UtfStr.slice.Goals as goal

pub invariant_of-result : goal.invariant_of-result
invariant_of-result g c =
    let part = IsTextRange-of_chars g.C.Unit.form (map g.C.Unit.number c.args.self.units.now) _ _ c.requires.at_boundaries in record {
      well_formed = rw (c.range-offsets.ensures.start, c.range-offsets.ensures.end) (IsWellFormed-map_part g.C.Unit.form g.C.Unit.number c.args.self.units.now c.args.self.well_formed _ _
          part.start part.end part.within.forward);
    }

pub range-offsets-requires-clause-in_bounds : goal.range-offsets-requires-clause-in_bounds
range-offsets-requires-clause-in_bounds g c = grind (arith, common_steps)

pub offset_bounds-self-offsets : goal.offset_bounds-self-offsets
offset_bounds-self-offsets g c = grind (arith, common_steps)

pub slice_bounds-result-end : goal.slice_bounds-result-end
slice_bounds-result-end g c = grind (arith, common_steps)

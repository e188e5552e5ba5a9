use Rattle.std.proofs.Common.{◌≡◌, ◌+◌, ◌≤◌, length, map, subst, sym, ap, ◌∙◌, ◌++◌, arith, length-drop}
use Rattle.std.proofs.lemmas.List.{length-map, map-append}
use Rattle.std.proofs.lemmas.Bool.{eqb-true}
use Rattle.wide_forms.specs.Offsets.{IsOffsetOf}
use Rattle.wide_utfstr.proofs.Walk.{IsLeftFrom, left-prefix, left-all, left-offset}
use Rattle.wide_utfstr.proofs.view.UtfStr.is_offset_of_itself.Goals.{After-char_count}
use Rattle.wide_utfstr.proofs.view.UtfStr.is_offset_of_itself.Goals as goal

-- What is left after the prefix.
module _ (g : _) (c : After-char_count g) where
  left : IsLeftFrom g.C.Unit.form (map g.C.Unit.number c.args.self.units.now) (map g.C.Unit.number c.split_at.result.1.units.now) c.char_count.result
  left =
      let form = g.C.Unit.form in
      let number = g.C.Unit.number in
      let us = map number c.args.self.units.now in
      let prefix = c.split_at.result.0 in
      let others = c.split_at.result.1 in
      let joined : map number prefix.units.now ++ map number others.units.now ≡ us = sym (map-append number prefix.units.now others.units.now) ∙ ap (map number) c.split_at.ensures.joined in
      let step = left-prefix form us c.args.self.well_formed us 0 (left-all form us c.args.self.well_formed) (map number prefix.units.now) (map number others.units.now) c.char_count.result joined prefix.well_formed others.well_formed c.char_count.ensures in
      let sum : 0 + c.char_count.result ≡ c.char_count.result = omega arith in
      subst (λ k. IsLeftFrom form us (map number others.units.now) k) sum step.1

pub returns-then-is_char_boundary-clause-within : goal.returns-then-is_char_boundary-clause-within
returns-then-is_char_boundary-clause-within g c same = omega (arith, (left g c).within, eqb-true c.char_count.result c.args.number same)

pub returns-then-is_char_boundary-clause-offset : goal.returns-then-is_char_boundary-clause-offset
returns-then-is_char_boundary-clause-offset g c same =
    let form = g.C.Unit.form in
    let number = g.C.Unit.number in
    let us = c.args.self.units.now in
    let others = c.split_at.result.1.units.now in
    let inside : c.args.number ≤ length us = omega (arith, length-map us number, (c.is_char_boundary.ensures.char_boundary.0 c.if-is_char_boundary.true).0) in
    let joined : c.args.number + length (map number others) ≡ length (map number us) = omega (arith, inside, length-map us number, length-map others number, ap length c.split_at.ensures.back, length-drop c.args.number us) in
    subst (λ k. IsOffsetOf form (map number us) k c.args.number) (eqb-true c.char_count.result c.args.number same)
    (left-offset form (map number us) c.args.self.well_formed (map number others) c.char_count.result (left g c) c.args.number joined)

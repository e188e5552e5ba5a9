use Rattle.std.proofs.Common.{refl, sym, subst, ap, arith, length, map}
use Rattle.std.specs.List.{All}
use Rattle.std.specs.Prelude.{◌+◌, ◌≤◌}
use Rattle.wide_forms.specs.EncodingForm.{code_units}
use Rattle.wide_forms.specs.Laws.Forms.{some_units}
use Rattle.wide_ustr.specs.Matched.{AreMatches}
use Rattle.wide_ustr.specs.View.{units_seen}
use Rattle.wide_ustr.proofs.Matched.{are-matches, matches-within, matches-most}
use Rattle.wide_ustr.proofs.view.UStr.match_indices_char.Goals as goal

pub returns-clause-are : goal.returns-clause-are
returns-clause-are g c =
    let needle = code_units g.C.Unit.form c.args.c in
    let us = map g.C.Unit.number (units_seen c.args.self) in
    subst (λ ms. AreMatches needle us 0 ms) (sym c.new.ensures) (are-matches needle us (some_units g.C.Unit.form c.args.c))

pub returns-clause-within : goal.returns-clause-within
returns-clause-within g c =
    let needle = code_units g.C.Unit.form c.args.c in
    let us = units_seen c.args.self in
    subst (All (λ m. m.0 + length needle ≤ length us)) (sym c.new.ensures) (matches-within g.C.Unit.number needle us (length needle) refl)

pub returns-clause-most : goal.returns-clause-most
returns-clause-most g c = omega (arith, ap length c.new.ensures, matches-most g.C.Unit.number (code_units g.C.Unit.form c.args.c) (units_seen c.args.self))

pub returns-clause-fits : goal.returns-clause-fits
returns-clause-fits g c = omega (arith, ap length c.new.ensures, matches-most g.C.Unit.number (code_units g.C.Unit.form c.args.c) (units_seen c.args.self), c.len-units.ensures)

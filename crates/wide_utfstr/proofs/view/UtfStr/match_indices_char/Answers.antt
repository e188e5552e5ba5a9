use Rattle.std.proofs.Common.{refl, sym, subst, ap, arith, length, map}
use Rattle.std.specs.List.{All}
use Rattle.std.specs.Prelude.{◌+◌}
use Rattle.wide_forms.specs.EncodingForm.{code_units}
use Rattle.wide_forms.specs.Laws.Ends.{IsWellFormed-code_units}
use Rattle.wide_forms.specs.Laws.Forms.{some_units}
use Rattle.wide_forms.specs.Offsets.{IsCharBoundary}
use Rattle.wide_ustr.specs.Matched.{AreMatches}
use Rattle.wide_utfstr.specs.View.{units_seen}
use Rattle.wide_ustr.proofs.Matched.{are-matches, matches-most}
use Rattle.wide_utfstr.proofs.Matched.{matches-start, matches-end}
use Rattle.wide_utfstr.proofs.view.UtfStr.match_indices_char.Goals as goal

pub returns-clause-are : goal.returns-clause-are
returns-clause-are g c =
    let needle = code_units g.C.Unit.form c.args.c in
    let us = map g.C.Unit.number (units_seen c.args.self) in
    subst (λ ms. AreMatches needle us 0 ms) (sym c.new.ensures) (are-matches needle us (some_units g.C.Unit.form c.args.c))

pub returns-clause-starts : goal.returns-clause-starts
returns-clause-starts g c =
    let form = g.C.Unit.form in
    let us = map g.C.Unit.number (units_seen c.args.self) in
    subst (All (λ m. IsCharBoundary form us m.0)) (sym c.new.ensures) (matches-start form (code_units form c.args.c) us (IsWellFormed-code_units form c.args.c c.ranges.c.0) c.args.self.well_formed)

pub returns-clause-ends : goal.returns-clause-ends
returns-clause-ends g c =
    let form = g.C.Unit.form in
    let needle = code_units form c.args.c in
    let us = map g.C.Unit.number (units_seen c.args.self) in
    subst (All (λ m. IsCharBoundary form us (m.0 + length needle))) (sym c.new.ensures) (matches-end form needle us (IsWellFormed-code_units form c.args.c c.ranges.c.0) c.args.self.well_formed (length needle) refl)

pub returns-clause-most : goal.returns-clause-most
returns-clause-most g c = omega (arith, ap length c.new.ensures, matches-most g.C.Unit.number (code_units g.C.Unit.form c.args.c) (units_seen c.args.self))

pub returns-clause-fits : goal.returns-clause-fits
returns-clause-fits g c = omega (arith, ap length c.new.ensures, matches-most g.C.Unit.number (code_units g.C.Unit.form c.args.c) (units_seen c.args.self), c.len-units.ensures)

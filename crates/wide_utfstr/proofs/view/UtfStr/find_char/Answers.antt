use Rattle.std.proofs.Common.{rules, IfSome, map}
use Rattle.std.proofs.lemmas.Option.{IfSome_then}
use Rattle.wide_forms.specs.EncodingForm.{code_units}
use Rattle.wide_search.specs.Occurrences.{IsFirstAt}
use Rattle.wide_search.proofs.Texts.{char-ends}
use Rattle.wide_utfstr.specs.View.{units_seen}
use Rattle.wide_utfstr.proofs.view.UtfStr.find_char.Goals as goal

pub returns-clause-char_boundary : goal.returns-clause-char_boundary
returns-clause-char_boundary g c =
    let first : IfSome c.find_char.result (IsFirstAt (code_units g.C.Unit.form c.args.c) (map g.C.Unit.number (units_seen c.args.self))) = search rules in
    IfSome_then c.find_char.result first (λ at is. (char-ends g.C.Unit.form g.C.Unit.number (units_seen c.args.self) c.args.self.well_formed c.args.c at c.ranges.c.0 is.here).0)

pub returns-clause-beyond : goal.returns-clause-beyond
returns-clause-beyond g c =
    let first : IfSome c.find_char.result (IsFirstAt (code_units g.C.Unit.form c.args.c) (map g.C.Unit.number (units_seen c.args.self))) = search rules in
    IfSome_then c.find_char.result first (λ at is. (char-ends g.C.Unit.form g.C.Unit.number (units_seen c.args.self) c.args.self.well_formed c.args.c at c.ranges.c.0 is.here).1)

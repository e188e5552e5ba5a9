use Rattle.std.proofs.Common.{rules, IfSome, map}
use Rattle.std.proofs.lemmas.Option.{IfSome_then}
use Rattle.wide_forms.specs.EncodingForm.{code_units}
use Rattle.wide_search.specs.Occurrences.{IsFirstFrom}
use Rattle.wide_search.proofs.Texts.{char-ends}
use Rattle.wide_utfstr.specs.View.{units_seen}
use Rattle.wide_utfstr.proofs.view.UtfStr.find_char_from.Goals as goal

pub returns-clause-beyond : goal.returns-clause-beyond
returns-clause-beyond g c =
    let us = units_seen c.args.self in
    let first : IfSome c.find_char_from.result (IsFirstFrom (code_units g.C.Unit.form c.args.c) (map g.C.Unit.number us) c.args.from) = search rules in
    IfSome_then c.find_char_from.result first (λ at is. (char-ends g.C.Unit.form g.C.Unit.number us c.args.self.well_formed c.args.c at c.ranges.c.0 is.here).1)

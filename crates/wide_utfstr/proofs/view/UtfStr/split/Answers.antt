use Rattle.std.proofs.Common.{◌*◌, sym, ◌∙◌, subst, ap, arith, length}
use Rattle.std.specs.Prelude.{map}
use Rattle.std.proofs.lemmas.List.{nil_from_length}
use Rattle.wide_search.specs.Substrings.{AreSubstrings}
use Rattle.wide_search.specs.Laws.Cuts.{substrings-cut, substrings-empty}
use Rattle.wide_forms.specs.UnitBytes.{unit_width}
use Rattle.wide_ustr.proofs.SubstringCounts.{substrings-most, substrings-fit}
use Rattle.wide_utfstr.specs.View.{units_seen}
use Rattle.wide_utfstr.proofs.view.UtfStr.split.Goals as goal

pub returns-clause-cut : goal.returns-clause-cut
returns-clause-cut g c = λ some.
    let number = g.C.Unit.number in
    let needle = units_seen c.args.needle in
    let us = units_seen c.args.self in
    subst (λ ps. AreSubstrings (map number needle) (map number us) ps) (sym c.new.ensures) (substrings-cut number needle us some)

pub returns-clause-empty : goal.returns-clause-empty
returns-clause-empty g c = λ none.
    let needle = units_seen c.args.needle in
    c.new.ensures ∙ substrings-empty g.C.Unit.number g.met.C.Unit.same needle (units_seen c.args.self) (nil_from_length needle none)

pub returns-clause-most : goal.returns-clause-most
returns-clause-most g c =
    let number = g.C.Unit.number in
    omega (arith, ap length c.new.ensures, substrings-most number (map number (units_seen c.args.needle)) (units_seen c.args.self))

pub returns-clause-fits : goal.returns-clause-fits
returns-clause-fits g c =
    let number = g.C.Unit.number in
    omega (arith, ap length c.new.ensures, substrings-fit number (map number (units_seen c.args.needle)) (units_seen c.args.self) g.C.Unit.form c.byte_len-bytes.result (c.byte_len-bytes.ensures.len ∙ ap (λ us. unit_width g.C.Unit.form * length us) c.as_slice.ensures.units) c.byte_len-bytes.ensures.bound)

use Rattle.std.proofs.Common.{sym, ◌∙◌, subst, ap, arith, length, map}
use Rattle.std.specs.List.{All}
use Rattle.std.specs.Prelude.{◌+◌}
use Rattle.std.proofs.lemmas.List.{nil_from_length, length-map}
use Rattle.wide_forms.specs.Offsets.{IsCharBoundary}
use Rattle.wide_ustr.specs.Matched.{AreMatches}
use Rattle.wide_utfstr.specs.View.{units_seen}
use Rattle.wide_ustr.proofs.Matched.{are-matches, no-matches, matches-most}
use Rattle.wide_utfstr.proofs.Matched.{matches-start, matches-end}
use Rattle.wide_utfstr.proofs.view.UtfStr.match_indices.Goals as goal

pub returns-clause-are : goal.returns-clause-are
returns-clause-are g c = λ some.
    let number = g.C.Unit.number in
    let needle = map number (units_seen c.args.needle) in
    let us = map number (units_seen c.args.self) in
    subst (λ ms. AreMatches needle us 0 ms) (sym c.new.ensures) (are-matches needle us (omega (arith, some, length-map (units_seen c.args.needle) number)))

pub returns-clause-empty : goal.returns-clause-empty
returns-clause-empty g c = λ none.
    let number = g.C.Unit.number in
    c.new.ensures ∙ no-matches (map number (units_seen c.args.needle)) (map number (units_seen c.args.self)) (ap (map number) (nil_from_length (units_seen c.args.needle) none))

pub returns-clause-starts : goal.returns-clause-starts
returns-clause-starts g c =
    let number = g.C.Unit.number in
    let us = map number (units_seen c.args.self) in
    subst (All (λ m. IsCharBoundary g.C.Unit.form us m.0)) (sym c.new.ensures) (matches-start g.C.Unit.form (map number (units_seen c.args.needle)) us c.args.needle.well_formed c.args.self.well_formed)

pub returns-clause-ends : goal.returns-clause-ends
returns-clause-ends g c =
    let number = g.C.Unit.number in
    let needle = units_seen c.args.needle in
    let us = map number (units_seen c.args.self) in
    subst (All (λ m. IsCharBoundary g.C.Unit.form us (m.0 + length needle))) (sym c.new.ensures) (matches-end g.C.Unit.form (map number needle) us c.args.needle.well_formed c.args.self.well_formed (length needle) (sym (length-map needle number)))

pub returns-clause-most : goal.returns-clause-most
returns-clause-most g c =
    let number = g.C.Unit.number in
    omega (arith, ap length c.new.ensures, matches-most number (map number (units_seen c.args.needle)) (units_seen c.args.self))

pub returns-clause-fits : goal.returns-clause-fits
returns-clause-fits g c =
    let number = g.C.Unit.number in
    omega (arith, ap length c.new.ensures, matches-most number (map number (units_seen c.args.needle)) (units_seen c.args.self), c.len-units.ensures)

use Rattle.std.proofs.Common.{rules, ◌≡◌, ◌<◌, ◌++◌, ◌∷◌, [], false, arith, map}
use Rattle.wide_forms.specs.Items.{items}
use Rattle.wide_unit.specs.Unit.{item_of}
use Rattle.wide_unit.proofs.CharBoundaries.{IsCharBoundary-of}
use Rattle.wide_search.specs.Sets.{IsLongestSuffix}
use Rattle.wide_ustr.proofs.KeptCuts.{all-items, inclusive-empty, inclusive-only, inclusive-rest}
use Rattle.wide_utfstr.specs.View.{units_seen}
use Rattle.wide_utfstr.proofs.set_splits.UtfStrInclusiveBackViewAnyOf.cut_off_inclusive.Goals as goal

pub returns-in_default-clause-none : goal.returns-in_default-clause-none
returns-in_default-clause-none g c =
    let empty : units_seen c.args.self ≡ [] = search rules in
    inclusive-empty g.C.Unit.form g.C.Unit.number (g.S.CharSet.has c.args.separator.set) (units_seen c.args.self) empty

pub returns-then-at-eq0-clause-none : goal.returns-then-at-eq0-clause-none
returns-then-at-eq0-clause-none g c =
    let form = g.C.Unit.form in
    let number = g.C.Unit.number in
    let has = g.S.CharSet.has c.args.separator.set in
    let us = units_seen c.args.self in
    let body = c.in-Some.body.now in
    let item = item_of number c.in-Some.field-0-1 in
    let at = c.suffix_of_set-at.result in
    let longest : IsLongestSuffix form has false (map number body) at = search rules in
    let next : items form (map number us) ≡ items form (map number body) ++ item ∷ [] = search rules in
    inclusive-only form number has us body item next at longest (omega (arith, c.if-at-eq0.true))

pub split_at-requires : goal.split_at-requires
split_at-requires g c =
    let form = g.C.Unit.form in
    let number = g.C.Unit.number in
    let has = g.S.CharSet.has c.args.separator.set in
    let us = units_seen c.args.self in
    let body = c.in-Some.body.now in
    let item = item_of number c.in-Some.field-0-1 in
    let at = c.suffix_of_set-at.result in
    let longest : IsLongestSuffix form has false (map number body) at = search rules in
    let next : items form (map number us) ≡ items form (map number body) ++ item ∷ [] = search rules in
    IsCharBoundary-of form (map number us) at c.args.self.well_formed (longest.rest, longest.suffix ++ item ∷ [], all-items form number has us body item next at longest, longest.length)

pub returns-clause-some : goal.returns-clause-some
returns-clause-some g c =
    let form = g.C.Unit.form in
    let number = g.C.Unit.number in
    let has = g.S.CharSet.has c.args.separator.set in
    let us = units_seen c.args.self in
    let body = c.in-Some.body.now in
    let item = item_of number c.in-Some.field-0-1 in
    let at = c.suffix_of_set-at.result in
    let longest : IsLongestSuffix form has false (map number body) at = search rules in
    let next : items form (map number us) ≡ items form (map number body) ++ item ∷ [] = search rules in
    let some : 0 < at = omega (arith, c.if-at-eq0.false) in
    inclusive-rest form number has us body item next at longest (units_seen c.split_at.result.0) (units_seen c.split_at.result.1) c.split_at.ensures.prefix c.split_at.ensures.back some

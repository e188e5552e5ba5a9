use Rattle.std.proofs.Common.{rules, ◌≡◌, ◌++◌, ◌∷◌, ◌∙◌, [], false, ap, sym, map, length, take}
use Rattle.std.proofs.lemmas.List.{length-map}
use Rattle.wide_forms.specs.Items.{items}
use Rattle.wide_forms.specs.Laws.Items.{units_of-items}
use Rattle.wide_unit.specs.Unit.{item_of}
use Rattle.wide_unit.proofs.CharBoundaries.{IsCharBoundary-of}
use Rattle.wide_search.specs.Sets.{IsLongestSuffix}
use Rattle.wide_search.proofs.Members.{suffix-boundary}
use Rattle.wide_ustr.proofs.KeptCuts.{back-only, back-only-kept, back-rest, back-rest-kept}
use Rattle.wide_utfstr.specs.View.{units_seen}
use Rattle.wide_utfstr.proofs.set_splits.UtfStrBackViewAnyOf.cut_last.Goals as goal

pub split_at-requires : goal.split_at-requires
split_at-requires g c =
    let has = g.S.CharSet.has c.args.separator.set in
    let longest : IsLongestSuffix g.C.Unit.form has false (map g.C.Unit.number (units_seen c.args.self)) c.suffix_of_set-at.result = search rules in
    suffix-boundary g.C.Unit.form g.C.Unit.number (units_seen c.args.self) c.args.self.well_formed has false c.suffix_of_set-at.result longest

pub split_at-requires-2 : goal.split_at-requires-2
split_at-requires-2 g c =
    let form = g.C.Unit.form in
    let number = g.C.Unit.number in
    let before = units_seen c.split_at.result.0 in
    let rest = c.in-Some.rest.now in
    let item = item_of number c.in-Some.field-0-1 in
    let next : items form (map number before) ≡ items form (map number rest) ++ item ∷ [] = search rules in
    IsCharBoundary-of form (map number before) (length rest) c.split_at.result.0.well_formed (items form (map number rest), item ∷ [], next, ap length (units_of-items form (map number rest)) ∙ length-map rest number)

pub returns-in_default-clause-none : goal.returns-in_default-clause-none
returns-in_default-clause-none g c =
    let has = g.S.CharSet.has c.args.separator.set in
    let longest : IsLongestSuffix g.C.Unit.form has false (map g.C.Unit.number (units_seen c.args.self)) c.suffix_of_set-at.result = search rules in
    let before = units_seen c.split_at.result.0 in
    let empty : before ≡ [] = search rules in
    back-only g.C.Unit.form g.C.Unit.number has (units_seen c.args.self) c.suffix_of_set-at.result longest before c.split_at.ensures.prefix empty

pub returns-in_default-clause-kept_none : goal.returns-in_default-clause-kept_none
returns-in_default-clause-kept_none g c =
    let has = g.S.CharSet.has c.args.separator.set in
    let longest : IsLongestSuffix g.C.Unit.form has false (map g.C.Unit.number (units_seen c.args.self)) c.suffix_of_set-at.result = search rules in
    let before = units_seen c.split_at.result.0 in
    let empty : before ≡ [] = search rules in
    back-only-kept g.C.Unit.form g.C.Unit.number has (units_seen c.args.self) c.suffix_of_set-at.result longest before c.split_at.ensures.prefix empty

pub returns-clause-some : goal.returns-clause-some
returns-clause-some g c =
    let form = g.C.Unit.form in
    let number = g.C.Unit.number in
    let has = g.S.CharSet.has c.args.separator.set in
    let longest : IsLongestSuffix form has false (map number (units_seen c.args.self)) c.suffix_of_set-at.result = search rules in
    let before = units_seen c.split_at.result.0 in
    let cut = c.in-Some.rest.now in
    let rest = units_seen c.split_at-2.result.0 in
    let item = item_of number c.in-Some.field-0-1 in
    let next : items form (map number before) ≡ items form (map number cut) ++ item ∷ [] = search rules in
    let front : cut ≡ take (length cut) before = search rules in
    let same : cut ≡ rest = front ∙ sym c.split_at-2.ensures.prefix in
    back-rest form number has (units_seen c.args.self) c.suffix_of_set-at.result longest before c.split_at.ensures.prefix rest (units_seen c.split_at.result.1) item
    c.split_at.ensures.back (next ∙ ap (λ vs. items form (map number vs) ++ item ∷ []) same)

pub returns-clause-kept_some : goal.returns-clause-kept_some
returns-clause-kept_some g c =
    let form = g.C.Unit.form in
    let number = g.C.Unit.number in
    let has = g.S.CharSet.has c.args.separator.set in
    let longest : IsLongestSuffix form has false (map number (units_seen c.args.self)) c.suffix_of_set-at.result = search rules in
    let before = units_seen c.split_at.result.0 in
    let cut = c.in-Some.rest.now in
    let rest = units_seen c.split_at-2.result.0 in
    let item = item_of number c.in-Some.field-0-1 in
    let next : items form (map number before) ≡ items form (map number cut) ++ item ∷ [] = search rules in
    let front : cut ≡ take (length cut) before = search rules in
    let same : cut ≡ rest = front ∙ sym c.split_at-2.ensures.prefix in
    back-rest-kept form number has (units_seen c.args.self) c.suffix_of_set-at.result longest before c.split_at.ensures.prefix rest (units_seen c.split_at.result.1) item
    c.split_at.ensures.back (next ∙ ap (λ vs. items form (map number vs) ++ item ∷ []) same)

use Rattle.std.proofs.Common.{rules, ◌∙◌, true, map, ap}
use Rattle.wide_search.specs.Sets.{IsLongestSuffix}
use Rattle.wide_search.proofs.Members.{suffix-boundary, suffix-removed}
use Rattle.wide_utfstr.specs.View.{units_seen}
use Rattle.wide_utfstr.proofs.view.UtfStr.trim_end_matches.Goals as goal

pub split_at-requires : goal.split_at-requires
split_at-requires g c =
    let has = g.S.CharSet.has c.args.set in
    let longest : IsLongestSuffix g.C.Unit.form has true (map g.C.Unit.number (units_seen c.args.self)) c.suffix_of_set.result = search rules in
    suffix-boundary g.C.Unit.form g.C.Unit.number (units_seen c.args.self) c.args.self.well_formed has true c.suffix_of_set.result longest

pub returns : goal.returns
returns g c =
    let has = g.S.CharSet.has c.args.set in
    let longest : IsLongestSuffix g.C.Unit.form has true (map g.C.Unit.number (units_seen c.args.self)) c.suffix_of_set.result = search rules in
    ap (map g.C.Unit.number) c.split_at.ensures.prefix ∙ suffix-removed g.C.Unit.form g.C.Unit.number has (units_seen c.args.self) c.suffix_of_set.result longest

use Rattle.std.proofs.Common.{rules, ◌∙◌, true, map, ap}
use Rattle.wide_search.specs.Sets.{IsLongestPrefix}
use Rattle.wide_search.proofs.Members.{prefix-removed}
use Rattle.wide_ustr.specs.View.{units_seen}
use Rattle.wide_ustr.proofs.view.UStr.trim_start_matches.Goals as goal

pub returns : goal.returns
returns g c =
    let has = g.S.CharSet.has c.args.set in
    let longest : IsLongestPrefix g.C.Unit.form has true (map g.C.Unit.number (units_seen c.args.self)) c.prefix_of_set.result = search rules in
    ap (map g.C.Unit.number) c.split_at.ensures.back ∙ prefix-removed g.C.Unit.form g.C.Unit.number has (units_seen c.args.self) c.prefix_of_set.result longest

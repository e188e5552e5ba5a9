use Rattle.std.proofs.Common.{◌∙◌, ap, map}
use Rattle.wide_search.specs.Sets.{without_suffix}
use Rattle.wide_search.proofs.Members.{ends-removed}
use Rattle.wide_ustr.specs.View.{units_seen}
use Rattle.wide_ustr.proofs.view.UStr.trim_matches.Goals as goal

pub returns : goal.returns
returns g c =
    let has = g.S.CharSet.has c.args.set in
    c.trim_end_matches.ensures ∙ ap (without_suffix g.C.Unit.form has) c.trim_start_matches.ensures ∙ ends-removed g.C.Unit.form has (map g.C.Unit.number (units_seen c.args.self))

use Rattle.std.proofs.Common.{◌∙◌, map}
use Rattle.wide_search.specs.Sets.{substrings_between}
use Rattle.wide_ustr.specs.Kept.{substrings_ended}
use Rattle.wide_ustr.specs.KeptLaws.{ended-whole, ended-some}
use Rattle.wide_ustr.specs.View.{units_seen}
use Rattle.wide_ustr.proofs.Few.{limited-one}
use Rattle.wide_ustr.proofs.view.UStr.splitn_any.Goals as goal

pub returns-clause-whole : goal.returns-clause-whole
returns-clause-whole g c = λ one.
    let form = g.C.Unit.form in
    let has = g.S.CharSet.has c.args.set in
    let whole = map g.C.Unit.number (units_seen c.args.self) in
    c.new.ensures ∙ limited-one c.args.count whole (substrings_between form has whole) (substrings_ended form has whole) one (ended-whole form has whole) (ended-some form has whole)

use Rattle.std.proofs.Common.{◌∙◌, ◌∷◌, [], ap, map}
use Rattle.std.specs.Prelude.{reverse}
use Rattle.std.proofs.lemmas.List.{reverse-reverse}
use Rattle.wide_ustr.specs.Kept.{substrings_between_back, substrings_ended_back}
use Rattle.wide_ustr.specs.KeptLaws.{ended_back-whole, ended_back-some}
use Rattle.wide_ustr.specs.View.{units_seen}
use Rattle.wide_ustr.proofs.Few.{limited-one}
use Rattle.wide_ustr.proofs.view.UStr.rsplitn_any.Goals as goal

pub returns-clause-whole : goal.returns-clause-whole
returns-clause-whole g c = λ one.
    let form = g.C.Unit.form in
    let has = g.S.CharSet.has c.args.set in
    let us = map g.C.Unit.number (units_seen c.args.self) in
    let whole = reverse us in
    c.new.ensures
    ∙ ap (map reverse) (limited-one c.args.count whole (substrings_between_back form has whole) (substrings_ended_back form has whole) one (ended_back-whole form has whole) (ended_back-some form has whole))
    ∙ ap (λ vs. vs ∷ []) (reverse-reverse us)

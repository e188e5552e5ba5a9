use Rattle.std.proofs.Common.{refl, ap, ◌∙◌, sym, map}
use Rattle.wide_forms.specs.Utf8.{utf8}
use Rattle.wide_forms.specs.Laws.Policies.{lossy_by-well_formed}
use Rattle.wide_ustr.specs.View.{units_seen}
use Rattle.wide_ustr.proofs.view.UStr.to_string_lossy_with.Goals as goal

pub returns-in_ok-utf8_string-in-None-clause-text : goal.returns-in_ok-utf8_string-in-None-clause-text
returns-in_ok-utf8_string-in-None-clause-text g c =
    c.in_ok-utf8_string-in-None.ensures.text ∙ ap utf8 (sym (lossy_by-well_formed c.args.policy g.C.Unit.form (map g.C.Unit.number (units_seen c.args.self)) (c.in-None.ensures.none.0 refl)))

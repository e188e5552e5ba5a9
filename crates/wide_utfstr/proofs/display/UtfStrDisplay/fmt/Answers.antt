use Rattle.std.proofs.Common.{ap, ◌∙◌}
use Rattle.std.proofs.Output.{has_written_of_eq, has_written_styled_of_eq}
use Rattle.wide_ustr.specs.View.{units_seen}
use Rattle.wide_utfstr.proofs.Displayed.{display_text-well_formed}
use Rattle.wide_utfstr.proofs.display.UtfStrDisplay.fmt.Goals as goal

pub returns-clause-writes : goal.returns-clause-writes
returns-clause-writes g c = λ plain fine.
    let view = c.args.self.now in
    let same = display_text-well_formed g.C.Unit.form g.C.Unit.number view.units.now (units_seen c.display.result.view) view.well_formed (ap units_seen c.display.ensures ∙ c.from_slice.ensures ∙ c.as_slice.ensures.units) in
    has_written_of_eq _ _ _ _ _ same (c.fmt.ensures.writes plain fine)

pub returns-clause-styled : goal.returns-clause-styled
returns-clause-styled g c = λ flush fine.
    let view = c.args.self.now in
    let same = display_text-well_formed g.C.Unit.form g.C.Unit.number view.units.now (units_seen c.display.result.view) view.well_formed (ap units_seen c.display.ensures ∙ c.from_slice.ensures ∙ c.as_slice.ensures.units) in
    has_written_styled_of_eq _ _ _ _ _ same (c.fmt.ensures.styled flush fine)

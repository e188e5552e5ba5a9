use Rattle.std.proofs.Common.{map}
use Rattle.wide_forms.specs.Items.{chars}
use Rattle.wide_utfstr.proofs.Trims.{trimmed-both, middle-both}
use Rattle.wide_utfstr.proofs.view.UtfStr.trim.Goals as goal

pub returns-clause-trimmed : goal.returns-clause-trimmed
returns-clause-trimmed g c =
    let form = g.C.Unit.form in
    let number = g.C.Unit.number in
    trimmed-both (chars form (map number c.args.self.units.now)) (chars form (map number c.trim_start.result.units.now)) (chars form (map number c.trim_end.result.units.now)) c.trim_start.ensures.trimmed c.trim_end.ensures.trimmed

pub returns-clause-part : goal.returns-clause-part
returns-clause-part g c = middle-both c.args.self.units.now c.trim_start.result.units.now c.trim_end.result.units.now c.trim_start.ensures.part c.trim_end.ensures.part

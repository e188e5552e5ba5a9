use Rattle.std.proofs.Common.{map, length}
use Rattle.wide_forms.specs.Items.{items}
use Rattle.wide_unit.proofs.Debugged.{HasQuoted}
use Rattle.wide_ustr.proofs.display.UStrDebug.fmt.Given as goal

abbrev pub invariant-loop-item : goal.invariant-loop-item
invariant-loop-item g l =
    let form = g.C.Unit.form in
    let number = g.C.Unit.number in
    HasQuoted g.W.Write.write_str_gives l.fn.f (items form (map number l.fn.self.units.now)) (items form (map number l.rest)) l.f

abbrev pub decreases-loop-item : goal.decreases-loop-item
decreases-loop-item g l = length l.rest

use Rattle.std.proofs.Common.{◌-◌}
use Rattle.wide_forms.specs.Laws.Lines.{placed-none}
use Rattle.wide_ustr.proofs.line_indices.LineIndicesIterator.next.Goals as goal

pub returns-in_default-clause-steps : goal.returns-in_default-clause-steps
returns-in_default-clause-steps g c =
    let view = g.V.LineView in
    let left = c.args.self.now in
    let none = placed-none view.form (left.len - view.count left.rest) (view.items_seen left.rest) c.in_default.ensures.none in
    (none, none)

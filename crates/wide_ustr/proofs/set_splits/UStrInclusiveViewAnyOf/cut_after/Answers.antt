use Rattle.wide_ustr.specs.View.{units_seen}
use Rattle.wide_ustr.proofs.KeptCuts.{ended-whole, ended-after}
use Rattle.wide_ustr.proofs.set_splits.UStrInclusiveViewAnyOf.cut_after.Goals as goal

pub returns-in_default-clause-none : goal.returns-in_default-clause-none
returns-in_default-clause-none g c = ended-whole g.C.Unit.form g.C.Unit.number (g.S.CharSet.has c.args.separator.set) (units_seen c.args.self) c.in_default.ensures.none

pub returns-clause-some : goal.returns-clause-some
returns-clause-some g c =
    ended-after g.C.Unit.form g.C.Unit.number (g.S.CharSet.has c.args.separator.set) (units_seen c.args.self) _ c.in-Some.end c.in-Some.ensures.first
    (units_seen c.split_at.result.1) c.split_at.ensures.back (units_seen c.split_at.result.0) c.split_at.ensures.prefix

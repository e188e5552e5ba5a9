use Rattle.wide_search.proofs.Members.{between-whole, between-split}
use Rattle.wide_ustr.specs.View.{units_seen}
use Rattle.wide_ustr.proofs.KeptCuts.{ended-whole, ended-split}
use Rattle.wide_ustr.proofs.sets.UStrSplitViewAnyOf.cut_first.Goals as goal

pub returns-in_default-clause-none : goal.returns-in_default-clause-none
returns-in_default-clause-none g c = between-whole g.C.Unit.form g.C.Unit.number (g.S.CharSet.has c.args.needle.set) (units_seen c.args.self) c.in_default.ensures.none

pub returns-clause-some : goal.returns-clause-some
returns-clause-some g c =
    between-split g.C.Unit.form g.C.Unit.number (g.S.CharSet.has c.args.needle.set) (units_seen c.args.self) (units_seen c.split_at.result.0) (units_seen c.split_at-2.result.1) c.in-Some.start c.in-Some.end c.in-Some.ensures.first c.split_at.ensures.prefix c.split_at-2.ensures.back

pub returns-in_default-clause-kept_none : goal.returns-in_default-clause-kept_none
returns-in_default-clause-kept_none g c = ended-whole g.C.Unit.form g.C.Unit.number (g.S.CharSet.has c.args.needle.set) (units_seen c.args.self) c.in_default.ensures.none

pub returns-clause-kept_some : goal.returns-clause-kept_some
returns-clause-kept_some g c =
    ended-split g.C.Unit.form g.C.Unit.number (g.S.CharSet.has c.args.needle.set) (units_seen c.args.self) c.in-Some.start c.in-Some.end c.in-Some.ensures.first
    (units_seen c.split_at-2.result.1) c.split_at-2.ensures.back (units_seen c.split_at.result.0) c.split_at.ensures.prefix

use Rattle.std.proofs.Common.{refl}
use Rattle.wide_unit.specs.Unit.{item_of}
use Rattle.wide_ustr.specs.View.{units_seen}
use Rattle.wide_ustr.proofs.KeptCuts.{back-only, back-only-kept, back-rest, back-rest-kept}
use Rattle.wide_ustr.proofs.set_splits.UStrBackViewAnyOf.cut_last.Goals as goal

pub returns-in_default-clause-none : goal.returns-in_default-clause-none
returns-in_default-clause-none g c =
    back-only g.C.Unit.form g.C.Unit.number (g.S.CharSet.has c.args.separator.set) (units_seen c.args.self) c.suffix_of_set.result c.suffix_of_set.ensures.longest (units_seen c.split_at.result.0) c.split_at.ensures.prefix (c.in_default.ensures.none.0 refl)

pub returns-in_default-clause-kept_none : goal.returns-in_default-clause-kept_none
returns-in_default-clause-kept_none g c =
    back-only-kept g.C.Unit.form g.C.Unit.number (g.S.CharSet.has c.args.separator.set) (units_seen c.args.self) c.suffix_of_set.result c.suffix_of_set.ensures.longest (units_seen c.split_at.result.0) c.split_at.ensures.prefix (c.in_default.ensures.none.0 refl)

pub returns-clause-some : goal.returns-clause-some
returns-clause-some g c =
    back-rest g.C.Unit.form g.C.Unit.number (g.S.CharSet.has c.args.separator.set) (units_seen c.args.self) c.suffix_of_set.result c.suffix_of_set.ensures.longest (units_seen c.split_at.result.0) c.split_at.ensures.prefix
    c.in-Some.rest.now (units_seen c.split_at.result.1) (item_of g.C.Unit.number c.in-Some.field-0-1) c.split_at.ensures.back c.in-Some.ensures.some

pub returns-clause-kept_some : goal.returns-clause-kept_some
returns-clause-kept_some g c =
    back-rest-kept g.C.Unit.form g.C.Unit.number (g.S.CharSet.has c.args.separator.set) (units_seen c.args.self) c.suffix_of_set.result c.suffix_of_set.ensures.longest (units_seen c.split_at.result.0) c.split_at.ensures.prefix
    c.in-Some.rest.now (units_seen c.split_at.result.1) (item_of g.C.Unit.number c.in-Some.field-0-1) c.split_at.ensures.back c.in-Some.ensures.some

use Rattle.std.proofs.Common.{◌<◌, arith, refl}
use Rattle.wide_unit.specs.Unit.{item_of}
use Rattle.wide_ustr.specs.View.{units_seen}
use Rattle.wide_ustr.proofs.KeptCuts.{inclusive-empty, inclusive-only, inclusive-rest}
use Rattle.wide_ustr.proofs.set_splits.UStrInclusiveBackViewAnyOf.cut_off_inclusive.Goals as goal

pub returns-in_default-clause-none : goal.returns-in_default-clause-none
returns-in_default-clause-none g c = inclusive-empty g.C.Unit.form g.C.Unit.number (g.S.CharSet.has c.args.separator.set) (units_seen c.args.self) (c.in_default.ensures.none.0 refl)

pub returns-then-at-eq0-clause-none : goal.returns-then-at-eq0-clause-none
returns-then-at-eq0-clause-none g c =
    inclusive-only g.C.Unit.form g.C.Unit.number (g.S.CharSet.has c.args.separator.set) (units_seen c.args.self) c.in-Some.body.now (item_of g.C.Unit.number c.in-Some.field-0-1) c.in-Some.ensures.some
    c.suffix_of_set-at.result c.suffix_of_set-at.ensures.longest (omega (arith, c.if-at-eq0.true))

pub returns-clause-some : goal.returns-clause-some
returns-clause-some g c =
    let some : 0 < c.suffix_of_set-at.result = omega (arith, c.if-at-eq0.false) in
    inclusive-rest g.C.Unit.form g.C.Unit.number (g.S.CharSet.has c.args.separator.set) (units_seen c.args.self) c.in-Some.body.now (item_of g.C.Unit.number c.in-Some.field-0-1) c.in-Some.ensures.some
    c.suffix_of_set-at.result c.suffix_of_set-at.ensures.longest (units_seen c.split_at.result.0) (units_seen c.split_at.result.1) c.split_at.ensures.prefix c.split_at.ensures.back some

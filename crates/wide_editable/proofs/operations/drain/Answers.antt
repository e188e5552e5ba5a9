use Rattle.std.proofs.Common.{arith, ap, map, length}
use Rattle.std.specs.Prelude.{vec_capacity}
use Rattle.wide_forms.specs.Offsets.{text_of}
use Rattle.wide_utfstr.specs.View.{units_seen}
use Rattle.wide_editable.proofs.Made.{rejected-drain}
use Rattle.wide_editable.proofs.AtFound.{drained-fits, drained}
use Rattle.wide_editable.proofs.operations.drain.Goals as goal

pub slice-requires-clause-at_boundaries : goal.slice-requires-clause-at_boundaries
slice-requires-clause-at_boundaries g c = rw c.as_utfstr.ensures (c.in-Some.ensures.some.range)

pub copy-taken-requires-clause-fits : goal.copy-taken-requires-clause-fits
copy-taken-requires-clause-fits g c =
    let a = c.in-Some.range.start in
    let b = c.in-Some.range.end in
    drained-fits g.C.Unit.form g.C.Unit.number c.args.s.now.units c.string_facts.ensures.well_formed c.args.from c.args.to a b c.in-Some.ensures.some (units_seen c.as_utfstr.result) (units_seen c.slice.result) c.as_utfstr.ensures c.slice.ensures
    (vec_capacity c.args.space) c.requires.space.fits

pub replace_range-fits-requires-clause-at_boundaries : goal.replace_range-fits-requires-clause-at_boundaries
replace_range-fits-requires-clause-at_boundaries g c = c.in-Some.ensures.some.range

pub returns-in-Some-clause-made : goal.returns-in-Some-clause-made
returns-in-Some-clause-made g c =
    let a = c.in-Some.range.start in
    let b = c.in-Some.range.end in
    let done = c.replace_range-fits in
    let both = drained g.C.Unit.form g.C.Unit.number c.args.s.now.units c.string_facts.ensures.well_formed c.args.from c.args.to a b c.in-Some.ensures.some (units_seen c.as_utfstr.result) (units_seen c.slice.result) c.as_utfstr.ensures c.slice.ensures
    (map g.C.Unit.number done.new.self.units) c.copy-taken.result.items done.result (units_seen c.default.result) c.copy-taken.ensures (done.ensures.succeeds (omega (arith, ap length c.default.ensures, c.string_facts.ensures.within))) c.default.ensures done.ensures.text in
    record { text = both.0; replied = both.1 }

pub returns-in-None-clause-made : goal.returns-in-None-clause-made
returns-in-None-clause-made g c = rejected-drain (text_of g.C.Unit.form g.C.Unit.number c.args.s.now.units) c.args.from c.args.to c.in-None.ensures.none

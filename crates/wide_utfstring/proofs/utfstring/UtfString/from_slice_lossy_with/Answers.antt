use Rattle.std.proofs.Common.{refl}
use Rattle.wide_unit.proofs.Faults.{first_fault-not_well_formed}
use Rattle.wide_utfstring.proofs.Lossies.{lossy_borrowed, lossy_owned, prefix_well_formed}
use Rattle.wide_utfstring.proofs.utfstring.UtfString.from_slice_lossy_with.Goals as goal

pub returns-in_err-string-in-Some-clause-succeeds : goal.returns-in_err-string-in-Some-clause-succeeds
returns-in_err-string-in-Some-clause-succeeds g c = λ well. absurd (first_fault-not_well_formed _ _ _ _ _ c.in-Some.ensures.some well)

pub returns-in-None-clause-text : goal.returns-in-None-clause-text
returns-in-None-clause-text g c = lossy_borrowed c.args.policy g.C.Unit.form g.C.Unit.number c.args.units.now c.from_slice_unchecked.result (c.in-None.ensures.none.0 refl) c.from_slice_unchecked.ensures

pub returns-in_ok-string-in-Some-clause-text : goal.returns-in_ok-string-in-Some-clause-text
returns-in_ok-string-in-Some-clause-text g c = lossy_owned c.args.policy g.C.Unit.form g.C.Unit.number c.args.units.now c.in_ok-string-in-Some.string _ _ _ c.in-Some.ensures.some c.in_ok-string-in-Some.ensures.made c.in_ok-string-in-Some.ensures.capacity

pub lossy_copy-requires-clause-prefix : goal.lossy_copy-requires-clause-prefix
lossy_copy-requires-clause-prefix g c = prefix_well_formed g.C.Unit.form g.C.Unit.number c.args.units.now _ _ _ c.in-Some.ensures.some

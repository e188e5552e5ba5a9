use Rattle.std.proofs.Common.{◌∙◌, ◌+◌, ◌++◌, ap, arith, map, subst, sym, take, w16}
use Rattle.std.specs.Char.{IsScalar}
use Rattle.std.proofs.lemmas.Simd.{below_from_Fits}
use Rattle.wide_repair.proofs.CompressedLanes.{compressed-count}
use Rattle.wide_forms.proofs.Tables.{ones-few}
use Rattle.wide_unit.proofs.StoredUnits.{stored-prefix}
use Rattle.wide_from_utf8.proofs.compressed_units.put_compressed.Goals as goal

pub put_lanes-requires-clause-scalars : goal.put_lanes-requires-clause-scalars
put_lanes-requires-clause-scalars g c k within =
    let lane = c.compress.ensures.within k within in
    subst (λ x. IsScalar x) (sym lane.2) (c.requires.scalars lane.0 lane.1)

pub returns-clause-units : goal.returns-clause-units
returns-clause-units g c =
    let number = g.C.Unit.number in
    let before = map number (take c.args.at c.args.units.now) in
    stored-prefix number c.args.units.now c.put_lanes.new.units c.compress.result c.args.at 8 _ (omega (arith, c.requires.space)) (ones-few c.args.bits c.requires.below) c.put_lanes.ensures ∙ ap (λ us. before ++ us) c.compress.ensures.compressed

pub returns-clause-high : goal.returns-clause-high
returns-clause-high g c = omega (arith, ones-few c.args.bits c.requires.below)

pub returns-clause-offset : goal.returns-clause-offset
returns-clause-offset g c = ap (λ n. c.args.at + n) (compressed-count c.args.bits c.requires.below c.args.lanes c.fits-lanes.0 (below_from_Fits w16 c.args.lanes c.fits-lanes.1))

use Rattle.std.proofs.Common.{◌+◌, ◌-◌, [], drop, arith}
use Rattle.std.specs.Char.{IsScalar}
use Rattle.std.proofs.lemmas.List.Elements.{All-take, All-drop}
use Rattle.wide_from_units.proofs.ScalarTexts.{prefix_text-scalars, scalar-below, scalars-well_formed, text-one_more, text-sixteen_more}
use Rattle.wide_from_units.proofs.to_utf8.utf32_to_utf8_prefix.Goals as goal

pub put_block-written-requires-clause-scalars : goal.put_block-written-requires-clause-scalars
put_block-written-requires-clause-scalars c =
    let us = c.args.units.now in
    All-take IsScalar (c.sixteens.read + 16 - c.sixteens.read) (drop c.sixteens.read us) (All-drop IsScalar c.sixteens.read us (scalars-well_formed us c.requires.well_formed))

pub sixteens-preserved : goal.sixteens-preserved
sixteens-preserved c = record {
  within = omega arith;
  few = omega (arith, c.put_block-written.ensures.high, c.sixteens.invariant.few);
  space = omega (arith, c.put_block-written.ensures.high, c.put_block-written.auto.out);
  text = text-sixteen_more c.args.units.now c.sixteens.read (c.sixteens.read + 16 - c.sixteens.read) (omega arith) c.sixteens.invariant.text c.put_block-written.ensures.text;
}

pub put_scalar-written-requires-clause-below : goal.put_scalar-written-requires-clause-below
put_scalar-written-requires-clause-below c = scalar-below c.args.units.now c.ones.read (scalars-well_formed c.args.units.now c.requires.well_formed) (omega arith)

pub ones-preserved : goal.ones-preserved
ones-preserved c = record {
  within = omega arith;
  few = omega (arith, c.put_scalar-written.ensures.high, c.ones.invariant.few);
  space = omega (arith, c.put_scalar-written.ensures.high, c.put_scalar-written.auto.out);
  text = text-one_more c.args.units.now [] c.ones.read (omega arith) c.ones.invariant.text c.put_scalar-written.ensures.text;
}

pub returns-else-text-written-ge4-clause-text : goal.returns-else-text-written-ge4-clause-text
returns-else-text-written-ge4-clause-text c = (prefix_text-scalars c.args.units.now _ c.ones.read c.requires.well_formed c.ones.invariant.within c.ones.invariant.text).text

pub returns-else-text-written-ge4-clause-rest : goal.returns-else-text-written-ge4-clause-rest
returns-else-text-written-ge4-clause-rest c = (prefix_text-scalars c.args.units.now _ c.ones.read c.requires.well_formed c.ones.invariant.within c.ones.invariant.text).rest

pub returns-after-ones-clause-text : goal.returns-after-ones-clause-text
returns-after-ones-clause-text c = (prefix_text-scalars c.args.units.now _ c.ones.read c.requires.well_formed c.ones.invariant.within c.ones.invariant.text).text

pub returns-after-ones-clause-rest : goal.returns-after-ones-clause-rest
returns-after-ones-clause-rest c = (prefix_text-scalars c.args.units.now _ c.ones.read c.requires.well_formed c.ones.invariant.within c.ones.invariant.text).rest

use Rattle.std.proofs.Common.{◌+◌, ◌∙◌, arith, subst, sym}
use Rattle.std.specs.Char.{IsScalar}
use Rattle.wide_from_utf8.specs.Decoded.{codes_of_three}
use Rattle.wide_unit.proofs.StoredUnits.{stored-more, unit-number}
use Rattle.wide_from_utf8.proofs.CodesOfThree.{length-codes_of_three, three-at}
use Rattle.wide_from_utf8.proofs.from_utf8_runs.put_threes.Goals as goal

pub char_of_three-c-requires : goal.char_of_three-c-requires
char_of_three-c-requires g c = subst (λ v. IsScalar v) (sym (three-at c.args.text.now c.loop-k.k c.loop-k-test.true c.requires.whole)) (c.requires.scalars c.loop-k.k c.loop-k-test.true)

pub loop-k-preserved : goal.loop-k-preserved
loop-k-preserved g c =
    let bs = c.args.text.now in
    let k = c.loop-k.k in
    let code = c.char_of_three-c.result in
    let unit = c.encode_char-unit.result in
    let is = unit-number g.C.Unit.number g.C.Unit.form code unit.0 unit.1 c.encode_char-unit.ensures (omega (arith, c.char_of_three-c.ensures)) ∙ c.char_of_three-c.ensures ∙ three-at bs k c.loop-k-test.true c.requires.whole in
    stored-more g.C.Unit.number c.loop-k.units c.args.units.now (codes_of_three bs) c.args.at k unit.0 (omega (arith, c.requires.space, c.loop-k.auto.units)) (omega (arith, length-codes_of_three bs (k + 1) (omega (arith, c.requires.whole)))) is c.loop-k.invariant

use Rattle.std.proofs.Common.{◌≡◌, ◌+◌, ◌-◌, ◌∙◌, sym, arith, rules, get_or, false, true}
use Rattle.wide_forms.specs.Searches.{is_low}
use Rattle.wide_unit.proofs.Pairs.{paired, block, even, odd}
use Rattle.wide_unit.proofs.lanes.leading_pairs.Goals as goal

pub loop-at-preserved : goal.loop-at-preserved
loop-at-preserved c =
    let us = c.args.units.now in
    let at = c.loop-at.at in
    let fits = c.type_inv.units in
    let same : c.high_bits.result ≡ c.low_bits.result = c.if-high_bits-low_bits.true in
    let pairs = paired us fits at (at + 16 - at) (at + 17 - (at + 1)) (omega arith) (omega arith) (omega (arith, c.loop-at-test.true, c.loop-at.invariant.0)) (sym c.high_bits.ensures ∙ same ∙ c.low_bits.ensures) in
    (omega (arith, c.loop-at-test.true, c.loop-at.invariant.0), block us fits at (omega (arith, c.loop-at-test.true, c.loop-at.invariant.0)) pairs c.loop-at.invariant.1)

pub returns-then-is_low_surrogate-2-clause-text : goal.returns-then-is_low_surrogate-2-clause-text
returns-then-is_low_surrogate-2-clause-text c =
    let last : is_low (get_or c.args.units.now c.loop-at.at 0) ≡ true = search rules in
    odd c.args.units.now c.type_inv.units c.loop-at.at c.loop-at.invariant.1 last

pub returns-else-is_low_surrogate-2-clause-text : goal.returns-else-is_low_surrogate-2-clause-text
returns-else-is_low_surrogate-2-clause-text c =
    let last : is_low (get_or c.args.units.now c.loop-at.at 0) ≡ false = search rules in
    even c.args.units.now c.type_inv.units c.loop-at.at c.loop-at.invariant.1 last

use Rattle.std.proofs.Common.{◌≡◌, ◌+◌, ◌-◌, ◌∙◌, ap, arith, drop, length, length-drop, length-take, map, subst, sym, take}
use Rattle.wide_from_utf8.specs.Decoded.{IsDecoded}
use Rattle.wide_from_utf8.proofs.PrefixUnits.{decoded-ascii, decoded-beyond, decoded-none, decoded-then}
use Rattle.wide_from_utf8.proofs.from_utf8_ascii.put_ascii_blocks.Goals as goal

pub sixteens-init : goal.sixteens-init
sixteens-init g c =
    let ours = map g.C.Unit.number (take c.args.at c.args.units.now) in
    let same : c.args.at ≡ c.args.at + 0 = omega arith in
    record {
      within = omega arith;
      space = omega (arith, c.requires.at);
      prefix = subst (λ n. IsDecoded g.C.Unit.form c.args.text.now 0 ours (map g.C.Unit.number (take n c.args.units.now))) same (decoded-none g.C.Unit.form c.args.text.now ours c.requires.text);
    }

pub sixteens-preserved : goal.sixteens-preserved
sixteens-preserved g c =
    let form = g.C.Unit.form in
    let number = g.C.Unit.number in
    let bs = c.args.text.now in
    let count = c.sixteens.count in
    let at = c.args.at in
    let rest = take (length bs - count) (drop count bs) in
    let prefix = c.sixteens.invariant.prefix in
    let next : at + count + 16 ≡ at + (count + 16) = omega arith in
    let ascii = c.low_len.ensures.low in
    let more = ap (λ n. map number (take n c.put_bytes.new.units)) (sym next) ∙ c.put_bytes.ensures in
    record {
      within = omega arith;
      space = omega (arith, c.put_bytes.auto.units);
      prefix = decoded-then form bs _ _ _ count 16 prefix (decoded-ascii form rest _ _ 16 (decoded-beyond form bs _ _ count prefix) (omega (arith, length-take (length bs - count) (drop count bs), length-drop count bs)) (λ k within. ascii k (omega (arith, within))) more);
    }

pub returns-then-low_len-lt16-clause-units : goal.returns-then-low_len-lt16-clause-units
returns-then-low_len-lt16-clause-units g c = c.sixteens.invariant.prefix

pub returns-else-units-at-ge16-clause-units : goal.returns-else-units-at-ge16-clause-units
returns-else-units-at-ge16-clause-units g c = c.sixteens.invariant.prefix

pub returns-after-sixteens-clause-units : goal.returns-after-sixteens-clause-units
returns-after-sixteens-clause-units g c = c.sixteens.invariant.prefix

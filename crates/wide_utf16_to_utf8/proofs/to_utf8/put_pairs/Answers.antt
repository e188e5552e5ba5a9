use Rattle.std.proofs.Common.{◌+◌, ◌*◌, ◌≡◌, take, refl, ap, ◌∙◌, subst, arith, get_or}
use Rattle.wide_utf16_to_utf8.specs.Encoded.{EncodedUnits}
use Rattle.wide_utf16_to_utf8.proofs.UnitEncodings.{more-pair}
use Rattle.wide_utf16_to_utf8.proofs.to_utf8.put_pairs.Goals as goal

pub loop-k-preserved : goal.loop-k-preserved
loop-k-preserved c =
    let us = c.args.block.now in
    let k = c.loop-k.k in
    let high = c.requires.high k (omega arith) in
    let low = c.requires.low k (omega arith) in
    let written : c.args.at + 4 * (k + 1) ≡ c.put_pair.result = omega (arith, c.put_pair.ensures.high) in
    let read : 2 * k + 2 ≡ 2 * (k + 1) = omega arith in
    let text = ap (λ n. take n c.put_pair.new.out) written ∙ c.put_pair.ensures.text in
    let more = more-pair us (2 * k) (get_or us (2 * k) 0) (get_or us (2 * k + 1) 0) c.loop-k.invariant (omega arith) refl refl (omega (arith, high)) (omega (arith, high)) (omega (arith, low)) (omega (arith, low)) text in
    subst (λ n. EncodedUnits (take n us) (take c.args.at c.args.out.now) (take (c.args.at + 4 * (k + 1)) c.put_pair.new.out)) read more

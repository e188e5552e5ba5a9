use Rattle.std.proofs.Common.{◌<◌, ◌≡◌, ◌∙◌, ◌+◌, ◌*◌, ℕ, ap, arith, get_or, length, subst, sym, take}
use Rattle.std.proofs.lemmas.List.{take_all}
use Rattle.wide_utf16_to_utf8.specs.Encoded.{EncodedUnits}
use Rattle.wide_utf16_to_utf8.specs.TwoBytes.{IsPair}
use Rattle.wide_utf16_to_utf8.proofs.Shuffles.{below-small, compressed-encoded, retold, same-two}
use Rattle.wide_utf16_to_utf8.proofs.two_bytes.put_eight.Goals as goal

pub returns-clause-text : goal.returns-clause-text
returns-clause-text c =
    let us = take 8 c.args.units.now in
    let whole : us ≡ c.args.units.now = take_all 8 c.args.units.now (omega (arith, c.requires.whole)) in
    let long : length us ≡ 8 = ap length whole ∙ c.requires.whole in
    let text = c.put_pair_bytes.ensures.text us long c.lanes_below.ensures in
    let pairs = c.pairs_of.result in
    let are : (k : ℕ) → k < length us → IsPair (get_or us k 0) (get_or pairs (0 + 2 * k) 0) (get_or pairs (0 + 2 * k + 1) 0) = λ k within.
    (let first : 0 + 2 * k ≡ 2 * k = omega arith in
    let second : 0 + 2 * k + 1 ≡ 2 * k + 1 = omega arith in
    same-two (IsPair (get_or us k 0)) (ap (λ n. get_or pairs n 0) first) (ap (λ n. get_or pairs n 0) second) (c.pairs_of.ensures k (omega (arith, within, long)))) in
    let encoded = compressed-encoded pairs us 0 (take c.args.at c.args.out.now) are (λ k within. subst (λ x. get_or x k 0 < 0x800) (sym whole) (c.requires.narrow k (omega (arith, within, long)))) in
    subst (λ x. EncodedUnits x (take c.args.at c.args.out.now) (take c.put_pair_bytes.result c.put_pair_bytes.new.out)) whole (retold text encoded)

pub pairs_of-requires : goal.pairs_of-requires
pairs_of-requires c = record { narrow = λ k within. subst (λ x. get_or x k 0 < 0x800) (sym (take_all 8 c.args.units.now (omega (arith, c.requires.whole)))) (c.requires.narrow k within) }

pub put_pair_bytes-requires-clause-below : goal.put_pair_bytes-requires-clause-below
put_pair_bytes-requires-clause-below c = omega (arith, c.lanes_below.ensures, below-small 0x80 8 (take 8 c.args.units.now) (ap length (take_all 8 c.args.units.now (omega (arith, c.requires.whole))) ∙ c.requires.whole))

use Rattle.std.proofs.Common.{◌≡◌, ◌+◌, ◌-◌, ◌%◌, ◌/◌, ◌*◌, ◌^◌, ◌∙◌, ◌++◌, ℕ, ap, append_assoc, arith, get_or, length, length-append, map, subst, sym, take}
use Rattle.std.specs.Char.{IsScalar}
use Rattle.wide_repair.specs.Compressed.{compressed_lanes}
use Rattle.wide_from_utf8.specs.Mixed.{codes_at, trailing_len}
use Rattle.wide_from_utf8.proofs.PrefixUnits.{IsPrefixUnits, beyond-is, joined}
use Rattle.wide_from_utf8.proofs.MixedPrefixes.{begun, codes-scalar, prefix_units-begun, compressed-both, leads-low, length-begun}
use Rattle.wide_from_utf8.proofs.from_utf8_mixed.put_mixed.Goals as goal

pub put_compressed-middle-requires-clause-scalars : goal.put_compressed-middle-requires-clause-scalars
put_compressed-middle-requires-clause-scalars g c k within =
    let bs = c.args.text.now in
    subst (λ vs. IsScalar (get_or vs k 0)) (sym c.codes_of.ensures) (codes-scalar 0 8 k bs c.requires.text within (omega (arith, within, c.requires.whole)))

pub put_compressed-beyond-requires-clause-below : goal.put_compressed-beyond-requires-clause-below
put_compressed-beyond-requires-clause-below g c = leads-low c.args.text.now _ _ c.leads_of.ensures

pub put_compressed-beyond-requires-clause-scalars : goal.put_compressed-beyond-requires-clause-scalars
put_compressed-beyond-requires-clause-scalars g c k within =
    let bs = c.args.text.now in
    subst (λ vs. IsScalar (get_or vs k 0)) (sym (c.codes_of-2.ensures ∙ ap (codes_at 8) (beyond-is bs 8))) (codes-scalar 8 8 k bs c.requires.text within (omega (arith, within, c.requires.whole)))

pub overflow_sub-result : goal.overflow_sub-result
overflow_sub-result g c = omega (arith, c.put_compressed-middle.ensures.offset, c.put_compressed-beyond.ensures.offset)

pub returns-clause-few : goal.returns-clause-few
returns-clause-few g c =
    let bs = c.args.text.now in
    let end = c.low_len-end.result in
    let bits : ℕ = c.leads_of.result % (1 * 2 ^ end % 2 ^ 64) in
    let first = compressed_lanes (bits % 256) c.codes_of.result in
    let second = compressed_lanes (bits / 256) c.codes_of-2.result in
    let both : first ++ second ≡ begun end bs = compressed-both bs c.codes_of.result c.codes_of-2.result end c.leads_of.result (omega (arith, c.requires.whole)) c.low_len-end.ensures.within c.leads_of.ensures c.codes_of.ensures c.codes_of-2.ensures in
    omega (arith, c.put_compressed-middle.ensures.offset, c.put_compressed-beyond.ensures.offset, ap length both, length-append first second, length-begun end bs)

pub returns-clause-units : goal.returns-clause-units
returns-clause-units g c =
    let form = g.C.Unit.form in
    let number = g.C.Unit.number in
    let bs = c.args.text.now in
    let at = c.args.at in
    let end = c.low_len-end.result in
    let half = c.put_compressed-middle in
    let beyond = c.put_compressed-beyond in
    let before = map number (take at c.args.units.now) in
    let bits : ℕ = c.leads_of.result % (1 * 2 ^ end % 2 ^ 64) in
    let first = compressed_lanes (bits % 256) c.codes_of.result in
    let second = compressed_lanes (bits / 256) c.codes_of-2.result in
    let both : first ++ second ≡ begun end bs = compressed-both bs c.codes_of.result c.codes_of-2.result end c.leads_of.result (omega (arith, c.requires.whole)) c.low_len-end.ensures.within c.leads_of.ensures c.codes_of.ensures c.codes_of-2.ensures in
    let offset : at + (beyond.result - at) ≡ beyond.result = omega (arith, half.ensures.offset, beyond.ensures.offset) in
    let stored = ap (λ n. map number (take n beyond.new.units)) offset ∙ beyond.ensures.units ∙ ap (λ us. us ++ second) {y = before ++ first} half.ensures.units ∙ append_assoc before first second ∙ ap (λ us. before ++ us) both in
    let rest = c.rest_len.ensures ∙ ap trailing_len (beyond-is bs end) in
    let prefix = prefix_units-begun form end bs c.requires.text (omega (arith, c.low_len-end.ensures.within, c.requires.whole)) c.low_len-end.ensures.low in
    joined form bs before _ (begun end bs) (end + c.rest_len.result) stored (subst (λ n. IsPrefixUnits form bs (end + n) (begun end bs)) (sym rest) prefix)

use Rattle.std.proofs.Common.{◌≡◌, ◌∙◌, sym, not, eqb, bit_and, arith, length, take, length-take}
use Rattle.std.proofs.lemmas.Simd.{length-zip2}
use Rattle.wide_from_utf8.proofs.FirstBits.{first-within, same-bits, none-before, none-passes}
use lib.Lanes.{zip2}
use Rattle.wide_from_utf8.proofs.from_utf8_runs.alike_len.Goals as goal

pub returns-then-bits-eq0-clause-alike : goal.returns-then-bits-eq0-clause-alike
returns-then-bits-eq0-clause-alike c k within =
    let bs = c.args.text.now in
    let masks = c.args.masks.now in
    let prefix : length (take 16 bs) ≡ 16 = omega (arith, length-take 16 bs, c.requires) in
    let long = length-zip2 bit_and (take 16 bs) masks (prefix ∙ sym c.told-masks) ∙ prefix in
    same-bits bs masks c.args.wanted.now k within c.requires c.told-masks (none-passes (λ a b. not (eqb a b)) (zip2 bit_and (take 16 bs) masks) c.args.wanted.now long c.told-wanted c.if-bits-eq0.true k within)

pub returns-else-bits-eq0-clause-within : goal.returns-else-bits-eq0-clause-within
returns-else-bits-eq0-clause-within c =
    let bs = c.args.text.now in
    let masks = c.args.masks.now in
    let prefix : length (take 16 bs) ≡ 16 = omega (arith, length-take 16 bs, c.requires) in
    let long = length-zip2 bit_and (take 16 bs) masks (prefix ∙ sym c.told-masks) ∙ prefix in
    first-within (λ a b. not (eqb a b)) (zip2 bit_and (take 16 bs) masks) c.args.wanted.now long c.told-wanted c.if-bits-eq0.false

pub returns-else-bits-eq0-clause-alike : goal.returns-else-bits-eq0-clause-alike
returns-else-bits-eq0-clause-alike c k before =
    let bs = c.args.text.now in
    let masks = c.args.masks.now in
    let prefix : length (take 16 bs) ≡ 16 = omega (arith, length-take 16 bs, c.requires) in
    let long = length-zip2 bit_and (take 16 bs) masks (prefix ∙ sym c.told-masks) ∙ prefix in
    let within = first-within (λ a b. not (eqb a b)) (zip2 bit_and (take 16 bs) masks) c.args.wanted.now long c.told-wanted c.if-bits-eq0.false in
    same-bits bs masks c.args.wanted.now k (omega (arith, before, within)) c.requires c.told-masks (none-before (λ a b. not (eqb a b)) (zip2 bit_and (take 16 bs) masks) c.args.wanted.now long c.told-wanted c.if-bits-eq0.false k before)

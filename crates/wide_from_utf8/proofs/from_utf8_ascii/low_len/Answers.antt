use Rattle.std.proofs.Common.{◌≡◌, refl, arith, length, replicate, take, length-take}
use Rattle.wide_from_utf8.proofs.FirstBits.{first-within, high-byte, low-byte, none-before, none-passes, passes-there}
use lib.Dec.{leb}
use Rattle.wide_from_utf8.proofs.from_utf8_ascii.low_len.Goals as goal

pub returns-then-bits-eq0-clause-low : goal.returns-then-bits-eq0-clause-low
returns-then-bits-eq0-clause-low c k within =
    let bs = c.args.text.now in
    low-byte c.args.bound bs k within (none-passes leb (replicate 16 c.args.bound) (take 16 bs) refl (omega (arith, length-take 16 bs, c.requires)) c.if-bits-eq0.true k within)

pub returns-else-bits-eq0-clause-within : goal.returns-else-bits-eq0-clause-within
returns-else-bits-eq0-clause-within c =
    let bs = c.args.text.now in
    first-within leb (replicate 16 c.args.bound) (take 16 bs) refl (omega (arith, length-take 16 bs, c.requires)) c.if-bits-eq0.false

pub returns-else-bits-eq0-clause-low : goal.returns-else-bits-eq0-clause-low
returns-else-bits-eq0-clause-low c k before =
    let bs = c.args.text.now in
    let bounds = replicate 16 c.args.bound in
    let long : length (take 16 bs) ≡ 16 = omega (arith, length-take 16 bs, c.requires) in
    low-byte c.args.bound bs k (omega (arith, before, first-within leb bounds (take 16 bs) refl long c.if-bits-eq0.false)) (none-before leb bounds (take 16 bs) refl long c.if-bits-eq0.false k before)

pub returns-else-bits-eq0-clause-stop : goal.returns-else-bits-eq0-clause-stop
returns-else-bits-eq0-clause-stop c less =
    let bs = c.args.text.now in
    let long : length (take 16 bs) ≡ 16 = omega (arith, length-take 16 bs, c.requires) in
    high-byte c.args.bound bs _ less (passes-there leb (replicate 16 c.args.bound) (take 16 bs) refl long c.if-bits-eq0.false less)

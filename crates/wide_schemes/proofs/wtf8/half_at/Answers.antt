use Rattle.std.proofs.Common.{◌≡◌, ◌+◌, ◌*◌, ◌%◌, length, get_or, sym, subst, arith}
use Rattle.wide_schemes.specs.PointRuns.{BeginsWithHalf}
use Rattle.wide_schemes.proofs.Halves.{none-first, none-second, none-third, part-one, part-two, whole-half}
use Rattle.wide_schemes.proofs.wtf8.half_at.Goals as goal

pub returns-then-bytes : goal.returns-then-bytes
returns-then-bytes c = none-first c.args.bytes.now c.requires c.if-bytes.true

pub returns-then-bytes-eq1 : goal.returns-then-bytes-eq1
returns-then-bytes-eq1 c = (let one : length c.args.bytes.now ≡ 1 = c.if-bytes-eq1.true in (omega (arith, one), part-one c.args.bytes.now one c.if-bytes.false))

pub returns-then-bytes-ne5 : goal.returns-then-bytes-ne5
returns-then-bytes-ne5 c = none-second c.args.bytes.now (omega (arith, c.requires, c.if-bytes-eq1.false)) c.if-bytes-ne5.true

pub returns-then-bytes-eq2 : goal.returns-then-bytes-eq2
returns-then-bytes-eq2 c = (let two : length c.args.bytes.now ≡ 2 = c.if-bytes-eq2.true in (omega (arith, two), part-two c.args.bytes.now two c.if-bytes.false c.if-bytes-ne5.false))

pub returns-then-bytes-ne2 : goal.returns-then-bytes-ne2
returns-then-bytes-ne2 c = none-third c.args.bytes.now (omega (arith, c.requires, c.if-bytes-eq1.false, c.if-bytes-eq2.false)) c.if-bytes-ne2.true

pub returns : goal.returns
returns c =
    let bs = c.args.bytes.now in
    let whole = whole-half bs (omega (arith, c.requires, c.if-bytes-eq1.false, c.if-bytes-eq2.false)) c.if-bytes.false c.if-bytes-ne5.false c.if-bytes-ne2.false in
    subst (λ n. BeginsWithHalf bs (0xD000 + n % 0x40 * 0x40 + c.from-2.result % 0x40)) (sym c.from.ensures) (subst (λ n. BeginsWithHalf bs (0xD000 + get_or bs 1 0 % 0x40 * 0x40 + n % 0x40)) (sym c.from-2.ensures) whole)

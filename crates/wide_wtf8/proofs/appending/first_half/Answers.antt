use Rattle.std.proofs.Common.{◌+◌, ◌*◌, ◌%◌, ◌∙◌, [], get_or, refl, sym, subst, true, arith}
use Rattle.std.proofs.lemmas.List.{append-nil}
use Rattle.wide_schemes.specs.PointRuns.{BeginsWithHalf}
use Rattle.wide_schemes.proofs.Halves.{none-first, none-second, none-third, whole-half}
use Rattle.wide_schemes.proofs.PointRuns.{few-no_half}
use Rattle.wide_wtf8.proofs.appending.first_half.Goals as goal

pub returns-then-bytes-lt3-clause-none : goal.returns-then-bytes-lt3-clause-none
returns-then-bytes-lt3-clause-none c = λ u rest half e. few-no_half c.args.bytes.now true c.if-bytes-lt3.true refl [] (λ l. refl) u rest half (append-nil c.args.bytes.now ∙ e)

pub returns-then-bytes-clause-none : goal.returns-then-bytes-clause-none
returns-then-bytes-clause-none c = λ u rest half e. none-first c.args.bytes.now (omega (arith, c.if-bytes-lt3.false)) c.if-bytes.true [] u rest half (append-nil c.args.bytes.now ∙ e)

pub returns-then-bytes-ne5-clause-none : goal.returns-then-bytes-ne5-clause-none
returns-then-bytes-ne5-clause-none c = λ u rest half e. none-second c.args.bytes.now (omega (arith, c.if-bytes-lt3.false)) c.if-bytes-ne5.true [] u rest half (append-nil c.args.bytes.now ∙ e)

pub returns-then-bytes-ne2-clause-none : goal.returns-then-bytes-ne2-clause-none
returns-then-bytes-ne2-clause-none c = λ u rest half e. none-third c.args.bytes.now (omega (arith, c.if-bytes-lt3.false)) c.if-bytes-ne2.true [] u rest half (append-nil c.args.bytes.now ∙ e)

pub returns-clause-some : goal.returns-clause-some
returns-clause-some c =
    let bs = c.args.bytes.now in
    let whole = whole-half bs (omega (arith, c.if-bytes-lt3.false)) c.if-bytes.false c.if-bytes-ne5.false c.if-bytes-ne2.false in
    subst (λ n. BeginsWithHalf bs (0xD000 + n % 0x40 * 0x40 + c.from-2.result % 0x40)) (sym c.from.ensures) (subst (λ n. BeginsWithHalf bs (0xD000 + get_or bs 1 0 % 0x40 * 0x40 + n % 0x40)) (sym c.from-2.ensures) whole)

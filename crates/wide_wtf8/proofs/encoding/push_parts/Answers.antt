use Rattle.std.proofs.Common.{◌≡◌, ◌<◌, ap, arith, length}
use Rattle.wide_wtf8.proofs.Parts.{none-left}
use Rattle.wide_wtf8.proofs.encoding.push_parts.Goals as goal

pub returns-in_err-extend_from_slice-clause-succeeds : goal.returns-in_err-extend_from_slice-clause-succeeds
returns-in_err-extend_from_slice-clause-succeeds g c = λ none.
    let empty : length c.args.units.now ≡ 0 = ap length none in
    let some : 0 < length c.parts.rest.now = grind (arith, c.is_empty.ensures, c.parts-test.true) in
    absurd (omega (arith, empty, some, c.parts.invariant.within))

pub returns-clause-text : goal.returns-clause-text
returns-clause-text g c =
    let rest : length c.parts.rest.now ≡ 0 = grind (arith, c.is_empty.ensures, c.parts-test.false) in
    none-left c.parts.rest.now c.parts.text.items _ rest c.parts.invariant.so_far

use Rattle.std.proofs.Common.{◌≡◌, ◌+◌, ◌&&◌, ◌↔◌, arith, map, nat_lt, get_or, IsTrue, IsAscii, take, ap, sym, subst, ◌∙◌}
use Rattle.std.proofs.lemmas.List.{length-map, get_or-map, take_all}
use Rattle.wide_ascii.proofs.Tested.{ascii-one_more}
use Rattle.wide_ascii.proofs.case.is_ascii_block.Goals as goal

pub loop-unit-preserved : goal.loop-unit-preserved
loop-unit-preserved g c =
    let number = g.C.Unit.number in
    let units = c.args.units.now in
    let k = c.loop-unit.unit-index in
    let is : c.code.result ≡ get_or (map number units) k 0 = c.code.ensures ∙ ap number c.unit-item.is ∙ sym (get_or-map number units k c.unit-item.result 0 c.loop-unit-test.true) in
    subst (λ n. IsTrue (c.loop-unit.is_ascii && nat_lt n 128) ↔ IsAscii (take (k + 1) (map number units))) (sym is) (ascii-one_more (map number units) k c.loop-unit.is_ascii (omega (arith, c.loop-unit-test.true, length-map units number)) c.loop-unit.invariant)

pub returns : goal.returns
returns g c =
    let us = map g.C.Unit.number c.args.units.now in
    subst (λ xs. IsTrue c.loop-unit.is_ascii ↔ IsAscii xs) (take_all c.loop-unit.unit-index us (omega (arith, c.loop-unit-test.false, length-map c.args.units.now g.C.Unit.number))) c.loop-unit.invariant

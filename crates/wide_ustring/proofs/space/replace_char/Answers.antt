use Rattle.std.proofs.Common.{◌≡◌, ap, sym, ◌∙◌, length, rules, arith}
use Rattle.std.proofs.lemmas.Grind.{common_steps}
use Rattle.wide_ustring.proofs.Opened.{map-one_put, map-two_put}
use Rattle.wide_ustring.proofs.space.replace_char.Goals as goal

pub returns-in-Some-clause-ok : goal.returns-in-Some-clause-ok
returns-in-Some-clause-ok g c =
    let number = g.C.Unit.number in
    let opened = c.in_ok-open.ensures in
    let units = rw c.in-Some.is at c.encode_char-first.ensures in
    let two : c.char_len.result ≡ 2 = c.char_len.ensures.value ∙ ap length (sym units) in
    rw (← units) (map-two_put number c.args.units.now.items c.open.new.units.items c.args.from c.args.to c.encode_char-first.result.0 c.in-Some.second opened.prefix (rw two at opened.rest) (search rules))

pub returns-in_default-clause-ok : goal.returns-in_default-clause-ok
returns-in_default-clause-ok g c =
    let number = g.C.Unit.number in
    let opened = c.in_ok-open.ensures in
    let units = rw c.in_default.is at c.encode_char-first.ensures in
    let one : c.char_len.result ≡ 1 = c.char_len.ensures.value ∙ ap length (sym units) in
    rw (← units) (map-one_put number c.args.units.now.items c.open.new.units.items c.args.from c.args.to c.encode_char-first.result.0 opened.prefix (rw one at opened.rest) (search rules))

pub returns-in_err-open-clause-ok : goal.returns-in_err-open-clause-ok
returns-in_err-open-clause-ok g c = grind (arith, common_steps)

pub index_mut-requires-in-Some : goal.index_mut-requires-in-Some
index_mut-requires-in-Some g c = grind (arith, common_steps)

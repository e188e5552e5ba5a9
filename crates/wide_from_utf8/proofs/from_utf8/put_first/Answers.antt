use Rattle.std.proofs.Common.{◌≡◌, ◌+◌, ◌-◌, ◌∙◌, ap, arith, map, take}
use Rattle.wide_from_utf8.proofs.PrefixUnits.{decoded-char}
use Rattle.wide_from_utf8.proofs.from_utf8.put_first.Goals as goal

pub returns-clause-units : goal.returns-clause-units
returns-clause-units g c =
    let bs = c.args.text.now in
    let character = c.first_char-c.result in
    let beyond : c.args.at + (c.put_char-beyond.result - c.args.at) ≡ c.put_char-beyond.result = omega (arith, c.put_char-beyond.ensures.offset) in
    decoded-char g.C.Unit.form bs _ _ character.0 character.1 c.requires.text c.first_char-c.ensures.first (ap (λ n. map g.C.Unit.number (take n c.put_char-beyond.new.units)) beyond ∙ c.put_char-beyond.ensures.units)

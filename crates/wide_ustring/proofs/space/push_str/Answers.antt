use Rattle.std.proofs.Common.{◌≡◌, ◌++◌, ◌∙◌, ap, arith, drop, length, map, take}
use Rattle.std.proofs.lemmas.Grind.{common_steps}
use Rattle.std.proofs.lemmas.List.{map-append}
use Rattle.wide_ustring.proofs.space.push_str.Goals as goal

pub returns-clause-ok : goal.returns-clause-ok
returns-clause-ok g c =
    let number = g.C.Unit.number in
    let old = c.args.units.now.items in
    let items = c.resize.new.self.items in
    let len = c.len-len.result in
    let written = c.write_str.new.units in
    let stored : take c.resize.new.self.len (take len items ++ (written ++ drop (length written) (drop len items)) ++ drop (length (take len items ++ (written ++ drop (length written) (drop len items)))) items) ≡ old ++ written = grind (arith, common_steps) in
    ap (map number) stored ∙ map-append number old written ∙ ap (λ us. map number old ++ us) c.write_str.ensures

use Rattle.std.proofs.Common.{◌≡◌, ◌++◌, ◌∙◌, ap, arith, drop, length, map, sym, take}
use Rattle.std.proofs.lemmas.Grind.{common_steps}
use Rattle.std.specs.List.{splice}
use Rattle.wide_forms.specs.Laws.Splices.{map-splice}
use Rattle.wide_ustring.proofs.space.replace_str.Goals as goal

pub returns-clause-ok : goal.returns-clause-ok
returns-clause-ok g c =
    let number = g.C.Unit.number in
    let old = c.args.units.now.items in
    let items = c.open.new.units.items in
    let from = c.args.from in
    let to = c.args.to in
    let written = c.write_str.new.units in
    let stored : take c.open.new.units.len (take from items ++ (written ++ drop (length written) (drop from items)) ++ drop (length (take from items ++ (written ++ drop (length written) (drop from items)))) items) ≡ splice old from to written = grind (arith, common_steps) in
    ap (map number) stored ∙ sym (map-splice number old from to written) ∙ ap (splice (map number old) from to) c.write_str.ensures

use Rattle.std.proofs.Common.{map, drop, arith}
use Rattle.std.proofs.lemmas.Grind.{common_steps}
use Rattle.std.proofs.lemmas.List.{take_rest}
use Rattle.wide_forms.specs.Laws.WellFormed.{no_first_fault}
use Rattle.wide_ustring.proofs.CharAt.{char-near, char-rest, char-units}
use Rattle.wide_ustring.proofs.ustring.char_at.Goals as goal

pub unreachable-requires-in_default-item : goal.unreachable-requires-in_default-item
unreachable-requires-in_default-item g c =
    let form = g.C.Unit.form in
    let number = g.C.Unit.number in
    let beyond = c.in-Some.rest.now in
    no_first_fault form (map number (drop c.args.at c.args.units.now)) (map number beyond) c.requires.well_formed (number c.in_default-item.field-0)
    (rw (c.in_default-item.is, take_rest c.args.units.now c.args.at) at c.in-Some.ensures.some)

pub returns-clause-units : goal.returns-clause-units
returns-clause-units g c =
    let form = g.C.Unit.form in
    let number = g.C.Unit.number in
    let beyond = c.in-Some.rest.now in
    let ensured = rw (c.in-Ok.is, take_rest c.args.units.now c.args.at) at c.in-Some.ensures in
    char-units form number c.args.units.now beyond c.args.at c.in-Ok.c c.requires.below ensured.some ensured.rest ensured.length

pub returns-clause-rest : goal.returns-clause-rest
returns-clause-rest g c =
    let form = g.C.Unit.form in
    let number = g.C.Unit.number in
    let beyond = c.in-Some.rest.now in
    let ensured = rw (c.in-Ok.is, take_rest c.args.units.now c.args.at) at c.in-Some.ensures in
    char-rest form number c.args.units.now beyond c.args.at c.in-Ok.c c.requires.below ensured.some ensured.rest ensured.length c.requires.well_formed

pub returns-clause-first : goal.returns-clause-first
returns-clause-first g c = grind (arith, common_steps)

pub returns-clause-near : goal.returns-clause-near
returns-clause-near g c =
    let form = g.C.Unit.form in
    let number = g.C.Unit.number in
    let beyond = c.in-Some.rest.now in
    let ensured = rw (c.in-Ok.is, take_rest c.args.units.now c.args.at) at c.in-Some.ensures in
    char-near form number c.args.units.now beyond c.args.at c.in-Ok.c c.requires.below ensured.some ensured.rest ensured.length

use Rattle.std.proofs.Common.{map, drop}
use Rattle.wide_forms.specs.Items.{IsBoundary}
use Rattle.wide_forms.specs.Laws.Offsets.{IsWellFormed-drop}
use Rattle.wide_unit.proofs.CharBoundaries.{IsBoundary-of_char}
use Rattle.wide_utfstring.proofs.Removed.{taken-scalar, removed-well_formed, removed-units, removed-text, removed-taken, taken_of_map, prefix_of_map}
use Rattle.wide_utfstring.proofs.utfstring.UtfString.remove.Goals as goal

pub unreachable-requires : goal.unreachable-requires
unreachable-requires g c =
    let form = g.C.Unit.form in
    let number = g.C.Unit.number in
    let xs = c.self.inside.string.units in
    let ys = c.remove_char-code.new.self.units in
    let code = c.remove_char-code.result in
    let at : IsBoundary form (map number xs) c.args.at = IsBoundary-of_char g.C.Unit.form (map g.C.Unit.number c.self.inside.string.units) c.args.at (rw (← c.self.view_is) at c.requires.boundary) in
    let taken = taken_of_map form number xs ys c.args.at code c.remove_char-code.ensures.taken in
    c.in_default.ensures.value (taken-scalar form (drop c.args.at (map number xs)) (drop c.args.at (map number ys)) (IsWellFormed-drop form (map number xs) c.self.invariant c.args.at at) code taken)

pub invariant_of-self : goal.invariant_of-self
invariant_of-self g c =
    let form = g.C.Unit.form in
    let number = g.C.Unit.number in
    let xs = c.self.inside.string.units in
    let ys = c.remove_char-code.new.self.units in
    let code = c.remove_char-code.result in
    let at : IsBoundary form (map number xs) c.args.at = IsBoundary-of_char g.C.Unit.form (map g.C.Unit.number c.self.inside.string.units) c.args.at (rw (← c.self.view_is) at c.requires.boundary) in
    let prefix = prefix_of_map form number xs ys c.args.at code c.remove_char-code.ensures.prefix in
    let taken = taken_of_map form number xs ys c.args.at code c.remove_char-code.ensures.taken in
    removed-well_formed form (map number xs) (map number ys) c.args.at c.self.invariant at prefix code taken

pub returns-clause-units : goal.returns-clause-units
returns-clause-units g c =
    let form = g.C.Unit.form in
    let number = g.C.Unit.number in
    let xs = c.self.inside.string.units in
    let ys = c.remove_char-code.new.self.units in
    let code = c.remove_char-code.result in
    let at : IsBoundary form (map number xs) c.args.at = IsBoundary-of_char g.C.Unit.form (map g.C.Unit.number c.self.inside.string.units) c.args.at (rw (← c.self.view_is) at c.requires.boundary) in
    let prefix = prefix_of_map form number xs ys c.args.at code c.remove_char-code.ensures.prefix in
    let taken = taken_of_map form number xs ys c.args.at code c.remove_char-code.ensures.taken in
    rw (← c.self.view_is, c.in-Some.ensures.value.1) (removed-units form (map number xs) (map number ys) c.args.at c.self.invariant at prefix code taken)

pub returns-clause-text : goal.returns-clause-text
returns-clause-text g c =
    let form = g.C.Unit.form in
    let number = g.C.Unit.number in
    let xs = c.self.inside.string.units in
    let ys = c.remove_char-code.new.self.units in
    let code = c.remove_char-code.result in
    let at : IsBoundary form (map number xs) c.args.at = IsBoundary-of_char g.C.Unit.form (map g.C.Unit.number c.self.inside.string.units) c.args.at (rw (← c.self.view_is) at c.requires.boundary) in
    let prefix = prefix_of_map form number xs ys c.args.at code c.remove_char-code.ensures.prefix in
    let taken = taken_of_map form number xs ys c.args.at code c.remove_char-code.ensures.taken in
    rw (← c.self.view_is) (removed-text form (map number xs) (map number ys) c.args.at c.self.invariant at prefix code taken)

pub returns-clause-taken : goal.returns-clause-taken
returns-clause-taken g c =
    let form = g.C.Unit.form in
    let number = g.C.Unit.number in
    let xs = c.self.inside.string.units in
    let ys = c.remove_char-code.new.self.units in
    let code = c.remove_char-code.result in
    let at : IsBoundary form (map number xs) c.args.at = IsBoundary-of_char g.C.Unit.form (map g.C.Unit.number c.self.inside.string.units) c.args.at (rw (← c.self.view_is) at c.requires.boundary) in
    let prefix = prefix_of_map form number xs ys c.args.at code c.remove_char-code.ensures.prefix in
    let taken = taken_of_map form number xs ys c.args.at code c.remove_char-code.ensures.taken in
    rw (← c.self.view_is, c.in-Some.ensures.value.1) (removed-taken form (map number xs) (map number ys) c.args.at c.self.invariant at prefix code taken)

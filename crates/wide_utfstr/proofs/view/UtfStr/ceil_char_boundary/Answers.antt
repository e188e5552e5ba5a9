use Rattle.std.proofs.Common.{◌≡◌, ◌<◌, arith, true, false, map, length}
use Rattle.std.proofs.lemmas.List.{length-map}
use Rattle.wide_utfstr.proofs.Boundary.{beyond-ceil}
use Rattle.wide_utfstr.specs.View.{units_seen}
use Rattle.wide_utfstr.proofs.view.UtfStr.ceil_char_boundary.Goals as goal

pub returns-else-is_char_boundary : goal.returns-else-is_char_boundary
returns-else-is_char_boundary g c =
    let us = map g.C.Unit.number (units_seen c.args.self) in
    let below : c.args.offset < length us = omega (arith, c.if-offset-len.false, c.len.ensures, length-map (units_seen c.args.self) g.C.Unit.number) in
    beyond-ceil g.C.Unit.form us c.args.offset c.args.self.well_formed below (λ here. let no : false ≡ true = c.if-is_char_boundary.ensures.char_boundary.1 here in cc)

use Rattle.std.proofs.Common.{◌∷◌, [], sym, subst, map, ap, arith, length}
use Rattle.wide_search.specs.Cut.{substrings-are}
use Rattle.wide_search.specs.Substrings.{AreSubstrings}
use Rattle.wide_ustr.proofs.SubstringCounts.{substrings-most, substrings-fit}
use Rattle.wide_ustr.specs.View.{units_seen}
use Rattle.wide_ustr.proofs.view.UStr.split_unit.Goals as goal

pub returns-clause-cut : goal.returns-clause-cut
returns-clause-cut g c =
    let needle = g.C.Unit.number c.args.unit ∷ [] in
    let us = map g.C.Unit.number (units_seen c.args.self) in
    subst (λ ps. AreSubstrings needle us ps) (sym c.new.ensures) (substrings-are needle us (omega arith))

pub returns-clause-most : goal.returns-clause-most
returns-clause-most g c =
    let number = g.C.Unit.number in
    omega (arith, ap length c.new.ensures, substrings-most number (number c.args.unit ∷ []) (units_seen c.args.self))

pub returns-clause-fits : goal.returns-clause-fits
returns-clause-fits g c =
    let number = g.C.Unit.number in
    omega (arith, ap length c.new.ensures, substrings-fit number (number c.args.unit ∷ []) (units_seen c.args.self) g.C.Unit.form c.byte_len-bytes.result c.byte_len-bytes.ensures.len c.byte_len-bytes.ensures.bound)

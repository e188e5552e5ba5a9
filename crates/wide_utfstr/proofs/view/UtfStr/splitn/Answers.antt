use Rattle.std.proofs.Common.{◌∙◌, ap, arith, length}
use Rattle.std.specs.Prelude.{map}
use Rattle.wide_search.specs.Cut.{substrings}
use Rattle.wide_search.specs.Substrings.{joined_with}
use Rattle.wide_ustr.proofs.Few.{splitn-whole, joined-substrings, length-splitn}
use Rattle.wide_utfstr.specs.View.{units_seen}
use Rattle.wide_ustr.proofs.Few.{limited-kept}
use Rattle.wide_utfstr.proofs.view.UtfStr.splitn.Goals as goal

pub returns-clause-left : goal.returns-clause-left
returns-clause-left g c = c.new.ensures ∙ limited-kept c.args.count (map g.C.Unit.number (units_seen c.args.needle)) (map g.C.Unit.number (units_seen c.args.self))

pub returns-clause-joined : goal.returns-clause-joined
returns-clause-joined g c = λ some.
    let needle = map g.C.Unit.number (units_seen c.args.needle) in
    ap (joined_with needle) (returns-clause-left g c) ∙ joined-substrings needle (map g.C.Unit.number (units_seen c.args.self)) c.args.count some

pub returns-clause-whole : goal.returns-clause-whole
returns-clause-whole g c = λ one. (returns-clause-left g c) ∙ splitn-whole (map g.C.Unit.number (units_seen c.args.needle)) (map g.C.Unit.number (units_seen c.args.self)) c.args.count one

pub returns-clause-most : goal.returns-clause-most
returns-clause-most g c =
    let needle = map g.C.Unit.number (units_seen c.args.needle) in
    omega (arith, ap length (returns-clause-left g c), length-splitn needle c.args.count (substrings needle (map g.C.Unit.number (units_seen c.args.self))))

pub returns-clause-fits : goal.returns-clause-fits
returns-clause-fits g c =
    let needle = map g.C.Unit.number (units_seen c.args.needle) in
    omega (arith, c.ranges.count, ap length (returns-clause-left g c), length-splitn needle c.args.count (substrings needle (map g.C.Unit.number (units_seen c.args.self))))

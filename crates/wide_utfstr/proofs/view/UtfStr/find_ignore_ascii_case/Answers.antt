use Rattle.std.proofs.Common.{rules, IfSome}
use Rattle.std.proofs.lemmas.Option.{IfSome_then}
use Rattle.wide_search.specs.Lowercased.{lowercased}
use Rattle.wide_search.specs.Occurrences.{IsFirstAt}
use Rattle.wide_utfstr.specs.View.{units_seen, numbers_seen}
use Rattle.wide_utfstr.proofs.Lowercase.{first-ends_lowercased}
use Rattle.wide_utfstr.proofs.view.UtfStr.find_ignore_ascii_case.Goals as goal

pub returns-clause-char_boundary : goal.returns-clause-char_boundary
returns-clause-char_boundary g c =
    let first : IfSome c.find_ignore_ascii_case.result (IsFirstAt (lowercased (numbers_seen g.C.Unit.number c.args.needle)) (lowercased (numbers_seen g.C.Unit.number c.args.self))) = search rules in
    IfSome_then c.find_ignore_ascii_case.result first (λ at is. (first-ends_lowercased g.C.Unit.form g.C.Unit.number (units_seen c.args.self) c.args.self.well_formed (units_seen c.args.needle) at c.args.needle.well_formed is).0)

pub returns-clause-beyond : goal.returns-clause-beyond
returns-clause-beyond g c =
    let first : IfSome c.find_ignore_ascii_case.result (IsFirstAt (lowercased (numbers_seen g.C.Unit.number c.args.needle)) (lowercased (numbers_seen g.C.Unit.number c.args.self))) = search rules in
    IfSome_then c.find_ignore_ascii_case.result first (λ at is. (first-ends_lowercased g.C.Unit.form g.C.Unit.number (units_seen c.args.self) c.args.self.well_formed (units_seen c.args.needle) at c.args.needle.well_formed is).1)

use Rattle.std.proofs.Common.{rules, IfSome}
use Rattle.std.proofs.lemmas.Option.{IfSome_then}
use Rattle.wide_search.specs.Occurrences.{IsLastAt}
use Rattle.wide_search.proofs.Texts.{last-ends}
use Rattle.wide_utfstr.specs.View.{units_seen}
use Rattle.wide_utfstr.proofs.view.UtfStr.rfind.Goals as goal

pub returns-clause-char_boundary : goal.returns-clause-char_boundary
returns-clause-char_boundary g c =
    let last : IfSome c.rfind.result (IsLastAt (units_seen c.args.needle) (units_seen c.args.self)) = search rules in
    IfSome_then c.rfind.result last (λ at is. (last-ends g.C.Unit.form g.C.Unit.number (units_seen c.args.self) c.args.self.well_formed (units_seen c.args.needle) at c.args.needle.well_formed is).0)

pub returns-clause-beyond : goal.returns-clause-beyond
returns-clause-beyond g c =
    let last : IfSome c.rfind.result (IsLastAt (units_seen c.args.needle) (units_seen c.args.self)) = search rules in
    IfSome_then c.rfind.result last (λ at is. (last-ends g.C.Unit.form g.C.Unit.number (units_seen c.args.self) c.args.self.well_formed (units_seen c.args.needle) at c.args.needle.well_formed is).1)

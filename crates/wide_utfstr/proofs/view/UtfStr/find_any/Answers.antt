use Rattle.std.proofs.Common.{rules, map}
use Rattle.wide_search.specs.Sets.{IsFirstMember}
use Rattle.wide_search.proofs.Members.{member-boundaries}
use Rattle.wide_utfstr.specs.View.{units_seen}
use Rattle.wide_utfstr.proofs.view.UtfStr.find_any.Goals as goal

pub returns-clause-char_boundary : goal.returns-clause-char_boundary
returns-clause-char_boundary g c =
    let has = g.S.CharSet.has c.args.set in
    let first : IsFirstMember g.C.Unit.form has (map g.C.Unit.number (units_seen c.args.self)) c.in-Some.start c.in-Some.field-0-1 = search rules in
    (member-boundaries g.C.Unit.form g.C.Unit.number (units_seen c.args.self) c.args.self.well_formed has c.in-Some.start c.in-Some.field-0-1 first).0

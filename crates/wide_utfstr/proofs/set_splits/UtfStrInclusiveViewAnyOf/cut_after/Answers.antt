use Rattle.std.proofs.Common.{rules, ◌≡◌, false, map}
use Rattle.std.specs.List.{All}
use Rattle.wide_forms.specs.Items.{items}
use Rattle.wide_search.specs.Sets.{is_member, IsFirstMember}
use Rattle.wide_search.proofs.Members.{member-boundaries}
use Rattle.wide_ustr.proofs.KeptCuts.{ended-whole, ended-after}
use Rattle.wide_utfstr.specs.View.{units_seen}
use Rattle.wide_utfstr.proofs.set_splits.UtfStrInclusiveViewAnyOf.cut_after.Goals as goal

pub returns-in_default-clause-none : goal.returns-in_default-clause-none
returns-in_default-clause-none g c =
    let has = g.S.CharSet.has c.args.separator.set in
    let none : All (λ i. is_member has i ≡ false) (items g.C.Unit.form (map g.C.Unit.number (units_seen c.args.self))) = search rules in
    ended-whole g.C.Unit.form g.C.Unit.number has (units_seen c.args.self) none

pub split_at-requires : goal.split_at-requires
split_at-requires g c =
    let has = g.S.CharSet.has c.args.separator.set in
    let first : IsFirstMember g.C.Unit.form has (map g.C.Unit.number (units_seen c.args.self)) c.in-Some.field-0-0 c.in-Some.end = search rules in
    (member-boundaries g.C.Unit.form g.C.Unit.number (units_seen c.args.self) c.args.self.well_formed has c.in-Some.field-0-0 c.in-Some.end first).1

pub returns-clause-some : goal.returns-clause-some
returns-clause-some g c =
    let has = g.S.CharSet.has c.args.separator.set in
    let first : IsFirstMember g.C.Unit.form has (map g.C.Unit.number (units_seen c.args.self)) c.in-Some.field-0-0 c.in-Some.end = search rules in
    ended-after g.C.Unit.form g.C.Unit.number has (units_seen c.args.self) c.in-Some.field-0-0 c.in-Some.end first
    (units_seen c.split_at.result.1) c.split_at.ensures.back (units_seen c.split_at.result.0) c.split_at.ensures.prefix

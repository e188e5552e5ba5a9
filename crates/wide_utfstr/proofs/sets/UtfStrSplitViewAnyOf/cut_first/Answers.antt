use Rattle.std.proofs.Common.{rules, ◌≡◌, false, map}
use Rattle.std.specs.List.{All}
use Rattle.wide_forms.specs.Items.{items}
use Rattle.wide_search.specs.Sets.{is_member, IsFirstMember}
use Rattle.wide_search.proofs.Members.{between-whole, between-split, member-boundaries}
use Rattle.wide_utfstr.specs.View.{units_seen}
use Rattle.wide_ustr.proofs.KeptCuts.{ended-whole, ended-split}
use Rattle.wide_utfstr.proofs.sets.UtfStrSplitViewAnyOf.cut_first.Goals as goal

pub returns-in_default-clause-none : goal.returns-in_default-clause-none
returns-in_default-clause-none g c =
    let has = g.S.CharSet.has c.args.needle.set in
    let none : All (λ i. is_member has i ≡ false) (items g.C.Unit.form (map g.C.Unit.number (units_seen c.args.self))) = search rules in
    between-whole g.C.Unit.form g.C.Unit.number has (units_seen c.args.self) none

pub split_at-requires : goal.split_at-requires
split_at-requires g c =
    let has = g.S.CharSet.has c.args.needle.set in
    let first : IsFirstMember g.C.Unit.form has (map g.C.Unit.number (units_seen c.args.self)) c.in-Some.start c.in-Some.end = search rules in
    (member-boundaries g.C.Unit.form g.C.Unit.number (units_seen c.args.self) c.args.self.well_formed has c.in-Some.start c.in-Some.end first).0

pub split_at-requires-2 : goal.split_at-requires-2
split_at-requires-2 g c =
    let has = g.S.CharSet.has c.args.needle.set in
    let first : IsFirstMember g.C.Unit.form has (map g.C.Unit.number (units_seen c.args.self)) c.in-Some.start c.in-Some.end = search rules in
    (member-boundaries g.C.Unit.form g.C.Unit.number (units_seen c.args.self) c.args.self.well_formed has c.in-Some.start c.in-Some.end first).1

pub returns-clause-some : goal.returns-clause-some
returns-clause-some g c =
    let has = g.S.CharSet.has c.args.needle.set in
    let first : IsFirstMember g.C.Unit.form has (map g.C.Unit.number (units_seen c.args.self)) c.in-Some.start c.in-Some.end = search rules in
    between-split g.C.Unit.form g.C.Unit.number has (units_seen c.args.self) (units_seen c.split_at.result.0) (units_seen c.split_at-2.result.1) c.in-Some.start c.in-Some.end first c.split_at.ensures.prefix c.split_at-2.ensures.back

pub returns-in_default-clause-kept_none : goal.returns-in_default-clause-kept_none
returns-in_default-clause-kept_none g c =
    let has = g.S.CharSet.has c.args.needle.set in
    let none : All (λ i. is_member has i ≡ false) (items g.C.Unit.form (map g.C.Unit.number (units_seen c.args.self))) = search rules in
    ended-whole g.C.Unit.form g.C.Unit.number has (units_seen c.args.self) none

pub returns-clause-kept_some : goal.returns-clause-kept_some
returns-clause-kept_some g c =
    let has = g.S.CharSet.has c.args.needle.set in
    let first : IsFirstMember g.C.Unit.form has (map g.C.Unit.number (units_seen c.args.self)) c.in-Some.start c.in-Some.end = search rules in
    ended-split g.C.Unit.form g.C.Unit.number has (units_seen c.args.self) c.in-Some.start c.in-Some.end first
    (units_seen c.split_at-2.result.1) c.split_at-2.ensures.back (units_seen c.split_at.result.0) c.split_at.ensures.prefix

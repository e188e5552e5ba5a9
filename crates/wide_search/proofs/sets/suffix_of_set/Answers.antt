use Rattle.std.proofs.Common.{rules, ◌≡◌}
use Rattle.wide_unit.specs.Unit.{item_of}
use Rattle.wide_search.specs.Sets.{is_member}
use Rattle.wide_search.proofs.Members.{before-end}
use Rattle.wide_search.proofs.sets.suffix_of_set.Goals as goal

pub returns-then-is_member-members-clause-longest : goal.returns-then-is_member-members-clause-longest
returns-then-is_member-members-clause-longest g c =
    let other : ¬ (is_member (g.S.CharSet.has c.args.set) (item_of g.C.Unit.number c.in-Some.item) ≡ c.args.members) = search rules in
    before-end g.C.Unit.form g.C.Unit.number (g.S.CharSet.has c.args.set) c.args.members c.args.units.now c.loop-others.rest.now c.in-Some.others.now (item_of g.C.Unit.number c.in-Some.item) c.loop-others.invariant c.in-Some.ensures.some other

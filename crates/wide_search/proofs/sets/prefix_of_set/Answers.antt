use Rattle.std.proofs.Common.{rules}
use Rattle.wide_unit.specs.Unit.{item_of}
use Rattle.wide_search.specs.Sets.{is_member}
use Rattle.std.proofs.Common.{◌≡◌}
use Rattle.wide_search.proofs.Members.{past-more}
use Rattle.wide_search.proofs.sets.prefix_of_set.Goals as goal

pub loop-item-preserved : goal.loop-item-preserved
loop-item-preserved g c =
    let kind : is_member (g.S.CharSet.has c.args.set) (item_of g.C.Unit.number c.in-Some.item) ≡ c.args.members = search rules in
    past-more g.C.Unit.form g.C.Unit.number (g.S.CharSet.has c.args.set) c.args.members c.args.units.now c.loop-item.rest.now c.in-Some.others.now (item_of g.C.Unit.number c.in-Some.item) c.loop-item.invariant c.in-Some.ensures.some c.in-Some.ensures.length kind

use Rattle.std.proofs.Common.{ap, arith, length}
use Rattle.wide_utfstr.specs.View.{units_seen}
use Rattle.wide_editable.proofs.Applied.{marks-long, unchanged-within, read-before, read-after, marked-after, unchanged-same, range-same, range-edited, range-moved}
use Rattle.wide_editable.proofs.marked.apply_to.Goals as goal

pub units_from-requires-clause-within : goal.units_from-requires-clause-within
units_from-requires-clause-within c =
    let within = unchanged-within c.args.string.now.units (units_seen c.as_utfstr-3.result) c.args.marks.now.items c.as_utfstr-3.ensures c.requires.marks c.count_from-count.result c.count_from-count.ensures.count c.args.edit c.first_changed-unchanged.result c.first_changed-unchanged.ensures in
    omega (arith, within, ap length c.as_slice-4.ensures.value)

pub update-requires-clause-edited : goal.update-requires-clause-edited
update-requires-clause-edited c =
    range-edited c.args.string.now.units (units_seen c.as_utfstr-3.result) c.args.marks.now.items c.as_utfstr-3.ensures c.requires.marks c.count_from-count.result c.count_from-count.ensures.count c.args.edit c.first_changed-unchanged.result c.first_changed-unchanged.ensures
    c.apply16-reply.new.string.units (units_seen c.as_utfstr-in-Some.result) c.as_utfstr-in-Some.ensures c.apply16-reply.ensures.made.text c.in-Some.range.from c.in-Some.range.to c.in-Some.range.start c.in-Some.range.end c.len-units.result c.len-units.ensures
    c.in-Some.ensures.found c.in-Some.ensures.replaces c.as_utfstr-3.result.well_formed

pub update-requires-clause-long : goal.update-requires-clause-long
update-requires-clause-long c = marks-long c.args.string.now.units (units_seen c.as_utfstr-3.result) c.args.marks.now.items c.as_utfstr-3.ensures c.requires.marks c.count_from-count.result c.count_from-count.ensures.count

pub update-requires-clause-some : goal.update-requires-clause-some
update-requires-clause-some c =
    range-same c.args.string.now.units (units_seen c.as_utfstr-3.result) c.args.marks.now.items c.as_utfstr-3.ensures c.requires.marks c.count_from-count.result c.count_from-count.ensures.count c.args.edit c.first_changed-unchanged.result c.first_changed-unchanged.ensures
    c.apply16-reply.new.string.units (units_seen c.as_utfstr-in-Some.result) c.as_utfstr-in-Some.ensures c.apply16-reply.ensures.made.text c.in-Some.range.from c.in-Some.range.to c.in-Some.range.start c.in-Some.range.end c.len-units.result c.len-units.ensures
    c.in-Some.ensures.found c.in-Some.ensures.replaces

pub update-requires-clause-moved : goal.update-requires-clause-moved
update-requires-clause-moved c =
    range-moved c.args.string.now.units (units_seen c.as_utfstr-3.result) c.args.marks.now.items c.as_utfstr-3.ensures c.requires.marks c.count_from-count.result c.count_from-count.ensures.count c.args.edit c.first_changed-unchanged.result c.first_changed-unchanged.ensures
    c.apply16-reply.new.string.units (units_seen c.as_utfstr-in-Some.result) c.as_utfstr-in-Some.ensures c.apply16-reply.ensures.made.text c.in-Some.range.from c.in-Some.range.to c.in-Some.range.start c.in-Some.range.end c.len-units.result c.len-units.ensures
    c.in-Some.ensures.found c.in-Some.ensures.replaces c.as_utfstr-3.result.well_formed

pub recount-requires-clause-within : goal.recount-requires-clause-within
recount-requires-clause-within c =
    unchanged-within c.args.string.now.units (units_seen c.as_utfstr-3.result) c.args.marks.now.items c.as_utfstr-3.ensures c.requires.marks c.count_from-count.result c.count_from-count.ensures.count c.args.edit c.first_changed-unchanged.result c.first_changed-unchanged.ensures

pub recount-requires-clause-some : goal.recount-requires-clause-some
recount-requires-clause-some c =
    unchanged-same c.args.string.now.units (units_seen c.as_utfstr-3.result) c.args.marks.now.items c.as_utfstr-3.ensures c.requires.marks c.count_from-count.result c.count_from-count.ensures.count c.args.edit c.first_changed-unchanged.result c.first_changed-unchanged.ensures
    c.apply16-reply.new.string.units (units_seen c.as_utfstr-in-None.result) c.as_utfstr-in-None.ensures c.apply16-reply.ensures.made.text

pub returns-in-Some-clause-steps : goal.returns-in-Some-clause-steps
returns-in-Some-clause-steps c =
    let before = read-before c.args.string.now.units (units_seen c.as_utfstr-3.result) c.args.marks.now.items c.as_utfstr-3.ensures c.requires.marks c.count_from-count.result c.count_from-count.ensures.count c.args.edit c.first_changed-unchanged.result c.first_changed-unchanged.ensures (units_seen c.as_utfstr-4.result) c.as_utfstr-4.ensures c.units_from.result c.units_from.ensures in
    let whole = read-after c.args.string.now.units (units_seen c.as_utfstr-3.result) c.args.marks.now.items c.as_utfstr-3.ensures c.requires.marks c.count_from-count.result c.count_from-count.ensures.count c.args.edit c.first_changed-unchanged.result c.first_changed-unchanged.ensures c.apply16-reply.new.string.units (units_seen c.as_utfstr-in-Some.result) c.as_utfstr-in-Some.ensures c.as_utfstr-in-Some.result.well_formed in
    let marked = marked-after c.args.string.now.units (units_seen c.as_utfstr-3.result) c.args.marks.now.items c.as_utfstr-3.ensures c.requires.marks c.count_from-count.result c.count_from-count.ensures.count c.args.edit c.first_changed-unchanged.result c.first_changed-unchanged.ensures c.apply16-reply.new.string.units (units_seen c.as_utfstr-in-Some.result) c.as_utfstr-in-Some.ensures in
    omega (arith, c.find_from-start.ensures.steps, c.find_from-end.ensures.steps, c.count_from-count.ensures.steps, c.replaced_range-range.ensures.steps, c.tick.ensures, before, c.update.ensures.steps, c.update.ensures.grows, whole, marked)

pub returns-in-None-clause-steps : goal.returns-in-None-clause-steps
returns-in-None-clause-steps c =
    let before = read-before c.args.string.now.units (units_seen c.as_utfstr-3.result) c.args.marks.now.items c.as_utfstr-3.ensures c.requires.marks c.count_from-count.result c.count_from-count.ensures.count c.args.edit c.first_changed-unchanged.result c.first_changed-unchanged.ensures (units_seen c.as_utfstr-4.result) c.as_utfstr-4.ensures c.units_from.result c.units_from.ensures in
    let whole = read-after c.args.string.now.units (units_seen c.as_utfstr-3.result) c.args.marks.now.items c.as_utfstr-3.ensures c.requires.marks c.count_from-count.result c.count_from-count.ensures.count c.args.edit c.first_changed-unchanged.result c.first_changed-unchanged.ensures c.apply16-reply.new.string.units (units_seen c.as_utfstr-in-None.result) c.as_utfstr-in-None.ensures c.as_utfstr-in-None.result.well_formed in
    let marked = marked-after c.args.string.now.units (units_seen c.as_utfstr-3.result) c.args.marks.now.items c.as_utfstr-3.ensures c.requires.marks c.count_from-count.result c.count_from-count.ensures.count c.args.edit c.first_changed-unchanged.result c.first_changed-unchanged.ensures c.apply16-reply.new.string.units (units_seen c.as_utfstr-in-None.result) c.as_utfstr-in-None.ensures in
    omega (arith, c.find_from-start.ensures.steps, c.find_from-end.ensures.steps, c.count_from-count.ensures.steps, c.replaced_range-range.ensures.steps, c.tick.ensures, before, c.recount.ensures.steps, c.recount.ensures.grows, whole, marked)

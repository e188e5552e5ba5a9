use Rattle.std.proofs.Common.{map, inr}
use Rattle.wide_editable.proofs.AtFound.{boundary-there, truncated, not-truncated}
use Rattle.wide_editable.proofs.operations.truncate.Goals as goal

pub truncate-requires : goal.truncate-requires
truncate-requires g c = inr (boundary-there g.C.Unit.form (map g.C.Unit.number c.args.s.now.units) c.args.len c.args.found c.requires c.in-Some.at c.in-Some.is)

pub returns-in-Some-clause-made : goal.returns-in-Some-clause-made
returns-in-Some-clause-made g c = truncated g.C.Unit.form (map g.C.Unit.number c.args.s.now.units) c.args.len c.args.found c.requires c.in-Some.at c.in-Some.is (map g.C.Unit.number c.truncate.new.self.units) c.truncate.ensures.text

pub returns-in-None-clause-made : goal.returns-in-None-clause-made
returns-in-None-clause-made g c = not-truncated g.C.Unit.form (map g.C.Unit.number c.args.s.now.units) c.args.len c.args.found c.requires c.in-None.is

use Rattle.wide_ustr.proofs.IndexedLemmas.{indexed-push}
use Rattle.wide_ustr.proofs.offsets.Offsets.last.Goals as goal

pub returns-clause-steps : goal.returns-clause-steps
returns-clause-steps g c = indexed-push g.C.Unit.form g.C.Unit.number c.args.self.now.offset c.args.self.now.rest.now c.in_ok-rest.rest.now _ c.in_ok-rest.ensures.some

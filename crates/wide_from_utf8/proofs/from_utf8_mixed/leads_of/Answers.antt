use Rattle.wide_from_utf8.proofs.CodeLanes.{leads-are}
use Rattle.wide_from_utf8.proofs.from_utf8_mixed.leads_of.Goals as goal

pub returns : goal.returns
returns c = leads-are c.args.text.now c.requires (λ k. (c.type_inv.text k).fits)

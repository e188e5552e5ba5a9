use Rattle.std.proofs.Common.{◌≡◌}
use Rattle.wide_search.proofs.Prefixes.{occurs-if_two}
use Rattle.wide_search.proofs.needle.FewNeedle.matched_in_blocks.Goals as goal

pub returns-in-Some-len1-up-clause-whole : goal.returns-in-Some-len1-up-clause-whole
returns-in-Some-len1-up-clause-whole g c =
    let number = g.C.Unit.number in
    let first : number c.first-item.result ≡ number c.args.self.first = cc in
    let second : number c.second-item.result ≡ number c.in-Some-len1-up.low = cc in
    occurs-if_two number g.met.C.Unit.same c.args.units.now c.args.self c.in-Some-len1-up.low c.first-item.result c.second-item.result c.in-Some-len1-up.is-0 c.first-item.is c.in-Some-len1-up.len_at_least c.second-item.is first second

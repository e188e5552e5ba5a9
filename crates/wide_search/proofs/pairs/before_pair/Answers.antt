use Rattle.std.proofs.Common.{arith}
use Rattle.wide_search.specs.Probes.{are_either}
use Rattle.wide_search.proofs.PairLanes.{none-before, first-within, first-before}
use Rattle.wide_search.proofs.pairs.before_pair.Goals as goal

pub returns-then-bits-eq0-clause-before : goal.returns-then-bits-eq0-clause-before
returns-then-bits-eq0-clause-before g c =
    λ k l. none-before g.L.Lane.number (are_either g.L.Lane.number c.args.first c.args.last) c.args.front.now c.args.back.now c.args.at g.L.Lane.COUNT _ c.bits-bits.result g.met.L.Lane.few_lanes (omega arith) c.requires.front c.requires.back
    c.bits-bits.ensures c.if-bits-eq0.true k (omega arith)

pub returns-else-bits-eq0-clause-within : goal.returns-else-bits-eq0-clause-within
returns-else-bits-eq0-clause-within g c =
    first-within g.L.Lane.number (are_either g.L.Lane.number c.args.first c.args.last) c.args.front.now c.args.back.now c.args.at g.L.Lane.COUNT _ c.bits-bits.result g.met.L.Lane.few_lanes (omega arith) c.requires.front c.requires.back
    c.bits-bits.ensures c.if-bits-eq0.false

pub returns-else-bits-eq0-clause-before : goal.returns-else-bits-eq0-clause-before
returns-else-bits-eq0-clause-before g c =
    first-before g.L.Lane.number (are_either g.L.Lane.number c.args.first c.args.last) c.args.front.now c.args.back.now c.args.at g.L.Lane.COUNT _ c.bits-bits.result g.met.L.Lane.few_lanes (omega arith) c.requires.front c.requires.back
    c.bits-bits.ensures c.if-bits-eq0.false

use Rattle.std.proofs.Common.{arith}
use Rattle.wide_search.specs.Probes.{are_either}
use Rattle.wide_search.proofs.PairLanes.{last-within, last-beyond}
use Rattle.wide_search.proofs.pairs.through_pair.Goals as goal

pub returns-clause-within : goal.returns-clause-within
returns-clause-within g c =
    last-within g.L.Lane.number (are_either g.L.Lane.number c.args.first c.args.last) c.args.front.now c.args.back.now c.args.at g.L.Lane.COUNT _ c.bits-bits.result g.met.L.Lane.few_lanes (omega arith) c.requires.front c.requires.back
    c.bits-bits.ensures

pub returns-clause-beyond : goal.returns-clause-beyond
returns-clause-beyond g c =
    last-beyond g.L.Lane.number (are_either g.L.Lane.number c.args.first c.args.last) c.args.front.now c.args.back.now c.args.at g.L.Lane.COUNT _ c.bits-bits.result g.met.L.Lane.few_lanes (omega arith) c.requires.front c.requires.back
    c.bits-bits.ensures

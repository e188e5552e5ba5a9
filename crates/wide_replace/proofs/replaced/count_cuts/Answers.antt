use Rattle.std.proofs.Common.{arith}
use Rattle.wide_search.specs.Laws.Cuts.{some-substrings}
use Rattle.wide_replace.proofs.replaced.count_cuts.Goals as goal

pub returns : goal.returns
returns g c =
    let some = some-substrings (g.V.NeedleView.needle_numbers c.args.needle) (g.V.SplitView.numbers_seen c.loop-found.rest) in
    omega (arith, some, c.loop-found.invariant.0, c.loop-found.invariant.1, c.loop-found-test.false)

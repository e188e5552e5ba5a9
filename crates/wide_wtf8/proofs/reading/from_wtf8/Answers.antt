use Rattle.std.proofs.Common.{◌≡◌, ap, arith, length}
use Rattle.wide_wtf8.specs.Laws.{few-units}
use Rattle.wide_wtf8.proofs.reading.from_wtf8.Goals as goal

pub returns-in_err-units-clause-succeeds : goal.returns-in_err-units-clause-succeeds
returns-in_err-units-clause-succeeds g c = λ none.
    let counted = c.in_ok-len.ensures.len in
    let few = few-units c.args.bytes.now counted.0 counted.1 in
    let asked : c.in_ok-len.len ≡ 0 = omega (arith, few, counted.2, ap length none) in
    let failed = c.in_err-units.ensures.succeeds asked in absurd cc

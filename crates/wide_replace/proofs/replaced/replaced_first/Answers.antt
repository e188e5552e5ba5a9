use Rattle.std.proofs.Common.{◌≡◌, arith}
use Rattle.wide_replace.proofs.Joined.{replaced-within, replaced-empty}
use Rattle.wide_replace.proofs.replaced.replaced_first.Goals as goal

pub replaced_len-requires : goal.replaced_len-requires
replaced_len-requires g c =
    replaced-within c.args.most c.count_cuts-found.result (g.V.NeedleView.needle_numbers c.args.needle) (g.V.SplitView.numbers_seen c.args.view) c.count_cuts-found.ensures c.needle_len.result c.units_len.result c.needle_len.ensures c.units_len.ensures

pub returns-in_default-clause-succeeds : goal.returns-in_default-clause-succeeds
returns-in_default-clause-succeeds g c = λ empty.
    let none = replaced-empty c.args.most c.count_cuts-found.result (g.V.NeedleView.needle_numbers c.args.needle) (g.V.SplitView.numbers_seen c.args.view) c.count_cuts-found.ensures c.needle_len.result c.units_len.result c.needle_len.ensures c.units_len.ensures (g.V.SplitView.numbers_seen c.args.with) c.units_len-2.result c.units_len-2.ensures empty in
    absurd (omega (arith, none, c.in_default.ensures.none))

pub returns-in_err-string-clause-succeeds : goal.returns-in_err-string-clause-succeeds
returns-in_err-string-clause-succeeds g c = λ empty.
    let none = replaced-empty c.args.most c.count_cuts-found.result (g.V.NeedleView.needle_numbers c.args.needle) (g.V.SplitView.numbers_seen c.args.view) c.count_cuts-found.ensures c.needle_len.result c.units_len.result c.needle_len.ensures c.units_len.ensures (g.V.SplitView.numbers_seen c.args.with) c.units_len-2.result c.units_len-2.ensures empty in
    let zero : c.in-Some.len ≡ 0 = omega (arith, none, c.in-Some.ensures.some) in
    let failed = c.in_err-string.ensures.succeeds zero in
    absurd cc

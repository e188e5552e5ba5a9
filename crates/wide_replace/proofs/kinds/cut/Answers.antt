use Rattle.std.proofs.Common.{sym, ◌∙◌}
use Rattle.std.proofs.lemmas.Option.{IfSome_then}
use Rattle.wide_search.proofs.Offsets.{none-then}
use Rattle.wide_ustr.proofs.Few.{cut-by_needle}
use Rattle.wide_replace.proofs.kinds.cut.Goals as goal

pub returns-clause-none : goal.returns-clause-none
returns-clause-none g c =
    let law = g.met.V.NeedleView.cut_at_needle c.args.needle in
    none-then c.cut_first.result c.cut_first.ensures.none (λ none. sym (law (g.V.SplitView.numbers_seen c.args.view)) ∙ none)

pub returns-clause-some : goal.returns-clause-some
returns-clause-some g c =
    let law = g.met.V.NeedleView.cut_at_needle c.args.needle in
    let seen = g.V.SplitView.numbers_seen in
    IfSome_then c.cut_first.result c.cut_first.ensures.some (λ r is. cut-by_needle (g.V.SplitView.cut_at c.args.needle) (g.V.NeedleView.needle_numbers c.args.needle) law (seen c.args.view) (seen r.0) (seen r.1) is)

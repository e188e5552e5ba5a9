use Rattle.std.proofs.Common.{◌<◌, suc, ap, ◌∙◌, arith, length, rules}
use Rattle.wide_ustr.specs.Kept.{limited}
use Rattle.wide_ustr.specs.SplitN.{splitn_of_rest}
use Rattle.wide_ustr.proofs.Few.{limited-last, limited-next}
use Rattle.wide_ustr.proofs.split_n.SplitNIterator.next.Goals as goal

pub returns-then-self-eq0-clause-steps : goal.returns-then-self-eq0-clause-steps
returns-then-self-eq0-clause-steps g c =
    let seen = g.V.SplitView.numbers_seen in
    let separator = c.args.self.now.needle in
    let whole = seen c.in_ok-view.view in
    let cuts = c.args.self.now.cuts in
    ap (splitn_of_rest seen (g.V.SplitView.cut_at separator) (g.V.SplitView.kept_at separator) cuts) c.in_ok-view.was
    ∙ limited-last cuts whole (g.V.SplitView.cut_at separator whole) (g.V.SplitView.kept_at separator whole) (omega (arith, c.if-self-eq0.true)) (g.V.SplitView.kept_whole separator whole) (g.V.SplitView.some_kept separator whole)

pub returns-then-self-eq0-clause-goes : goal.returns-then-self-eq0-clause-goes
returns-then-self-eq0-clause-goes g c =
    let steps = ap length (returns-then-self-eq0-clause-steps g c) in
    record { on = λ finite. (search rules, search rules, omega (arith, steps)); keeps = search rules; rests = λ finite. search rules }

pub returns-clause-steps : goal.returns-clause-steps
returns-clause-steps g c =
    let seen = g.V.SplitView.numbers_seen in
    let separator = c.args.self.now.needle in
    let cuts = c.args.self.now.cuts in
    let some : 0 < cuts = omega (arith, c.if-self-eq0.false) in
    let parts = g.V.SplitView.kept_at separator (seen c.in_ok-view.view) in
    ap (splitn_of_rest seen (g.V.SplitView.cut_at separator) (g.V.SplitView.kept_at separator) cuts) c.in_ok-view.was
    ∙ ap (λ ps. limited (suc cuts) ps parts) c.in-Some.ensures.some
    ∙ ap (limited (suc cuts) _) c.in-Some.ensures.kept_some.cut
    ∙ limited-next cuts _ _ _ _ some

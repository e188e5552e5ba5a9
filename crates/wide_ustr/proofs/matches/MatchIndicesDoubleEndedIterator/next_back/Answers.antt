use Rattle.std.proofs.Common.{◌≡◌, ◌≤◌, ◌+◌, ◌-◌, ◌∷◌, ◌++◌, [], ◌∙◌, IfSome, ap, sym, subst, arith, length}
use Rattle.wide_search.specs.Cut.{substrings}
use Rattle.wide_ustr.specs.Matched.{matches_between}
use Rattle.wide_ustr.specs.MatchesLeft.{matches_left, matches_of_rest, placed_match}
use Rattle.wide_ustr.proofs.BothEnds.{progress-last}
use Rattle.wide_ustr.proofs.MatchedEnds.{matches-last}
use Rattle.wide_ustr.proofs.matches.MatchIndicesDoubleEndedIterator.next_back.Goals as goal

pub returns-clause-steps : goal.returns-clause-steps
returns-clause-steps g c =
    let seen = g.V.SplitView.numbers_seen in
    let s = c.args.self.now in
    let needle = g.V.NeedleView.needle_numbers s.needle in
    let view = seen c.in_ok-view.view in
    let before = seen c.in-Some.found.0 in
    let found = seen c.in-Some.found.1 in
    let end = s.len - c.units_len.result + c.units_len-2.result in
    let within : length view ≤ s.len = subst (λ r. IfSome r (λ v. length (seen v) ≤ s.len)) c.in_ok-view.was s.within in
    let from : end - length before ≡ s.len - length view = omega (arith, within, c.units_len.ensures, c.units_len-2.ensures) in
    let next : end ≡ s.len - length view + length before = omega (arith, within, c.units_len.ensures, c.units_len-2.ensures) in
    ap (matches_of_rest seen needle s.len) c.in_ok-view.was
    ∙ matches-last needle view before found (s.len - length view) end c.in-Some.ensures.some next
    ∙ ap (λ n. matches_between needle n (substrings needle before) ++ (end, found) ∷ []) (sym from)

pub returns-clause-goes : goal.returns-clause-goes
returns-clause-goes g c = progress-last (placed_match g.V.SplitView.numbers_seen) matches_left _ _ _ (returns-clause-steps g c)

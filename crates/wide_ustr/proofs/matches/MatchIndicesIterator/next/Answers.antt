use Rattle.std.proofs.Common.{◌≡◌, ◌≤◌, ◌+◌, ◌-◌, ◌∷◌, ◌∙◌, IfSome, ap, sym, subst, arith, length, rules}
use Rattle.wide_search.specs.Cut.{substrings}
use Rattle.wide_ustr.specs.Matched.{matches_between}
use Rattle.wide_ustr.specs.MatchesLeft.{matches_of_rest}
use Rattle.wide_ustr.proofs.Matched.{matches-first, match-rest}
use Rattle.wide_ustr.proofs.matches.MatchIndicesIterator.next.Goals as goal

pub returns-clause-steps : goal.returns-clause-steps
returns-clause-steps g c =
    let seen = g.V.SplitView.numbers_seen in
    let s = c.args.self.now in
    let needle = g.V.NeedleView.needle_numbers s.needle in
    let view = seen c.in_ok-view.view in
    let at = c.in-Some.found.0 in
    let found = seen c.in-Some.found.1 in
    let rest = seen c.in-Some.found.2 in
    let within : length view ≤ s.len = subst (λ r. IfSome r (λ v. length (seen v) ≤ s.len)) c.in_ok-view.was s.within in
    let next : s.len - length rest ≡ s.len - length view + at + length needle = omega (arith, within, match-rest needle view at found rest c.in-Some.ensures.some) in
    ap (matches_of_rest seen needle s.len) c.in_ok-view.was
    ∙ matches-first needle view at found rest (s.len - length view) (s.len - length rest) c.in-Some.ensures.some next
    ∙ ap (λ n. (s.len - n + at, found) ∷ matches_between needle (s.len - length rest) (substrings needle rest)) (sym c.units_len.ensures)

pub returns-clause-goes : goal.returns-clause-goes
returns-clause-goes g c =
    let steps = ap length (returns-clause-steps g c) in
    record { on = λ finite. (search rules, search rules, omega (arith, steps)); keeps = search rules; rests = λ finite. search rules }

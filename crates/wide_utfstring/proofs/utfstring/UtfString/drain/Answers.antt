use Rattle.std.proofs.Common.{◌≡◌, ◌≤◌, [], ◌∙◌, ap, sym, arith, subst, length, map}
use Rattle.std.proofs.lemmas.List.{length-map}
use Rattle.std.specs.Range.Bound.{end_index}
use Rattle.wide_forms.specs.Items.{IsWellFormed, IsBoundary}
use Rattle.wide_forms.specs.Laws.Splices.{IsWellFormed-map_part, IsWellFormed-map_splice, IsWellFormed-nil}
use Rattle.wide_unit.proofs.CharBoundaries.{IsTextRange-of_chars}
use Rattle.wide_utfstring.proofs.Drains.{drain_in_order, drain_in_reverse, drain_stays}
use Rattle.wide_utfstring.proofs.utfstring.UtfString.drain.Goals as goal

pub invariant_of-result : goal.invariant_of-result
invariant_of-result g c =
    let form = g.C.Unit.form in
    let number = g.C.Unit.number in
    let us = c.args.self.now.units in
    let part = IsTextRange-of_chars form (map number us) _ _ c.requires.in_range in
    let from = c.range-offsets.result.start in
    let to = c.range-offsets.result.end in
    let well = subst (λ s. IsWellFormed form (map number s.units)) c.self.view_is c.self.invariant in
    let long : c.len-len.result ≡ length us = c.len-len.ensures ∙ ap (λ s. length s.units) c.self.view_is in
    let ends = c.range-offsets.ensures.end ∙ ap (end_index (g.R.RangeBounds.end_bound c.args.range)) long in
    let at_from = subst (λ n. IsBoundary form (map number us) n) (sym c.range-offsets.ensures.start) part.start in
    let at_to = subst (λ n. IsBoundary form (map number us) n) (sym ends) part.end in
    let forward : from ≤ to = omega (arith, c.range-offsets.ensures.start, ends, part.within.forward) in
    let within : to ≤ c.len-len.result = omega (arith, ends, long, part.within.within, length-map us number) in
    record {
      ordered = (omega arith, forward, omega arith, within);
      part = λ _. IsWellFormed-map_part form number us well from to at_from at_to forward;
      others = λ _. IsWellFormed-map_splice form number us well from to at_from at_to [] (IsWellFormed-nil form);
    }

pub returns-clause-runs : goal.returns-clause-runs
returns-clause-runs g c = drain_in_order

pub returns-clause-runs_back : goal.returns-clause-runs_back
returns-clause-runs_back g c = drain_in_reverse

pub returns-clause-stays : goal.returns-clause-stays
returns-clause-stays g c = drain_stays _

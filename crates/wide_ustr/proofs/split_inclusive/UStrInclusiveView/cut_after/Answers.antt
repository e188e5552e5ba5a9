use Rattle.std.proofs.Common.{◌<◌, ◌∙◌, sym, map, arith, length}
use Rattle.std.proofs.lemmas.List.{length-map}
use Rattle.wide_search.specs.Laws.Cuts.{substrings-empty, substrings-nowhere}
use Rattle.wide_search.specs.Laws.Numbers.{first-numbers}
use Rattle.wide_search.proofs.Offsets.{no-units, some-units}
use Rattle.wide_ustr.specs.View.{units_seen}
use Rattle.wide_ustr.proofs.Inclusive.{cut-after}
use Rattle.wide_ustr.proofs.KeptCuts.{kept-none}
use Rattle.wide_ustr.proofs.split_inclusive.UStrInclusiveView.cut_after.Goals as goal

pub returns-then-is_empty-clause-none : goal.returns-then-is_empty-clause-none
returns-then-is_empty-clause-none g c = kept-none _ _ _ (substrings-empty g.C.Unit.number g.met.C.Unit.same (units_seen c.args.needle) (units_seen c.args.self) (no-units (units_seen c.args.needle) c.if-is_empty.ensures))

pub returns-in_default-clause-none : goal.returns-in_default-clause-none
returns-in_default-clause-none g c = kept-none _ _ _ (substrings-nowhere g.C.Unit.number g.met.C.Unit.same (units_seen c.args.needle) (units_seen c.args.self) c.in_default.ensures.none)

pub returns-clause-some : goal.returns-clause-some
returns-clause-some g c =
    let number = g.C.Unit.number in
    let needle = units_seen c.args.needle in
    let us = units_seen c.args.self in
    let long = length-map needle number in
    let some : 0 < length (map number needle) = omega (arith, long, some-units needle c.if-is_empty.ensures) in
    cut-after number (map number needle) us (units_seen c.split_at.result.0) (units_seen c.split_at.result.1) c.in-Some.at c.len.result some (c.len.ensures ∙ sym long)
    (first-numbers number g.met.C.Unit.same needle us c.in-Some.at c.in-Some.ensures.first) c.split_at.ensures.prefix c.split_at.ensures.back

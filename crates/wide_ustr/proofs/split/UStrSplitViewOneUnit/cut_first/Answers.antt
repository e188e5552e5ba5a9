use Rattle.std.proofs.Common.{◌∷◌, [], map, arith}
use Rattle.wide_search.specs.Laws.Cuts.{substrings-nowhere, substrings-first, split-at}
use Rattle.wide_search.specs.Laws.Numbers.{first-numbers}
use Rattle.wide_ustr.specs.View.{units_seen}
use Rattle.wide_ustr.proofs.KeptCuts.{kept-none, kept-next}
use Rattle.wide_ustr.proofs.split.UStrSplitViewOneUnit.cut_first.Goals as goal

pub returns-in_default-clause-none : goal.returns-in_default-clause-none
returns-in_default-clause-none g c = substrings-nowhere g.C.Unit.number g.met.C.Unit.same (c.args.needle.unit ∷ []) (units_seen c.args.self) c.in_default.ensures.none

pub returns-clause-some : goal.returns-clause-some
returns-clause-some g c =
    let number = g.C.Unit.number in
    let needle = number c.args.needle.unit ∷ [] in
    let us = units_seen c.args.self in
    let prefix = units_seen c.split_at.result.0 in
    let rest = units_seen c.split_at-2.result.1 in
    let first = first-numbers number g.met.C.Unit.same (c.args.needle.unit ∷ []) us c.in-Some.at c.in-Some.ensures.first in
    let split = split-at number needle us prefix rest c.in-Some.at 1 (omega arith) first c.split_at.ensures.prefix c.split_at-2.ensures.back in
    substrings-first needle (map number us) (map number prefix) (map number rest) (omega arith) split

pub returns-in_default-clause-kept_none : goal.returns-in_default-clause-kept_none
returns-in_default-clause-kept_none g c = kept-none _ _ _ (returns-in_default-clause-none g c)

pub returns-clause-kept_some : goal.returns-clause-kept_some
returns-clause-kept_some g c = kept-next _ _ _ _ (returns-clause-some g c)
